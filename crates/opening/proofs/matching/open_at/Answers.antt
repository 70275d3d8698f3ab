-- `opening::matching::open_at` meets its contract: the fills, their records, what they leave, and what the cancels
-- leave of that.
use Rattle.opening.specs.MatchingLaws.{volume_fits, opening_apart, opening_writes, opening_shares, opening_leaves, opening_answers}
use Rattle.opening.proofs.matching.open_at.Goals as goal

pub lesser_of-q-requires : goal.lesser_of-q-requires
lesser_of-q-requires c =
    let a = c.args in
    volume_fits a.price.0 a.book.now.sides a.book.now.prices a.book.now.sizes _ _ c.requires.fit.small c.resting_within-buys.ensures

pub record-fills-requires : goal.record-fills-requires
record-fills-requires c =
    let a = c.args in
    record { distinct = opening_apart a.book.now.sides a.book.now.prices a.book.now.sizes a.book.now.owners a.book.now.numbers c.requires.fit a.price.0 _ _ _ c.lesser_of-q.ensures c.resting_within-buys.ensures c.resting_within-sells.ensures _ c.fills_at-traded.ensures }

pub returns : goal.returns
returns c =
    let a = c.args in
    record {
      numbers_value = opening_leaves a.book.now.sides a.book.now.prices a.book.now.sizes a.book.now.owners a.book.now.numbers c.requires.fit a.price.0 _ _ _ c.lesser_of-q.ensures c.resting_within-buys.ensures c.resting_within-sells.ensures _ c.fills_at-traded.ensures _ c.remove.ensures _ c.cancel.ensures;
      lent_after = opening_writes a.book.now.sides a.book.now.prices a.book.now.sizes a.book.now.owners a.book.now.numbers c.requires.fit a.price.0 _ _ _ c.lesser_of-q.ensures c.resting_within-buys.ensures c.resting_within-sells.ensures _ c.fills_at-traded.ensures _ _ c.record-fills.ensures.lent_after;
      shared_after = opening_shares a.book.now.sides a.book.now.prices a.book.now.sizes a.book.now.owners a.book.now.numbers c.requires.fit a.price.0 _ _ _ c.lesser_of-q.ensures c.resting_within-buys.ensures c.resting_within-sells.ensures _ c.fills_at-traded.ensures;
      value = opening_answers a.book.now.sides a.book.now.prices a.book.now.sizes a.book.now.owners a.book.now.numbers c.requires.fit a.price.0 _ _ _ c.lesser_of-q.ensures c.resting_within-buys.ensures c.resting_within-sells.ensures _ c.fills_at-traded.ensures _ c.record-fills.ensures.value;
    }
