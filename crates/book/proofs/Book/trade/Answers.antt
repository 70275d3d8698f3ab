-- `Book::trade` meets its contract: an order with nothing to trade leaves the book and the records as they
-- were; else what each row trades, its record and what is left of it are those of the definitions.
use native.Mathlib.Omega.{arith}
use mathlib.Core.Path.{sym, ◌∙◌}
use Rattle.book.specs.TradingLaws.{took_apart, trade_leaves, trade_counts, trade_writes, trade_shares, trade_fills, trade_answers, nothing_left, nothing_counted, nothing_written, nothing_shared, nothing_filled}
use Rattle.book.proofs.Book.trade.Goals as goal

pub returns-then-all-eq0 : goal.returns-then-all-eq0
returns-then-all-eq0 c =
    let a = c.args in
    let n = sym c.resting_within-all.ensures ∙ c.if-all-eq0.true in
    record { numbers_value = nothing_left a.self.now.sides a.self.now.prices a.self.now.sizes a.self.now.owners a.self.now.numbers c.requires.fit a.side a.bound.0 a.q.0 a.allocation n; lent_after = nothing_written a.self.now.sides a.self.now.prices a.self.now.sizes a.self.now.owners a.self.now.numbers c.requires.fit a.side a.bound.0 a.q.0 a.allocation n _ (omega arith); shared_after = nothing_shared a.self.now.sides a.self.now.prices a.self.now.sizes a.self.now.owners a.self.now.numbers c.requires.fit a.side a.bound.0 a.q.0 a.allocation n; value = trade_answers a.self.now.sides a.self.now.prices a.self.now.sizes a.self.now.owners a.self.now.numbers c.requires.fit a.side a.bound.0 a.q.0 a.allocation _ _ (nothing_filled a.self.now.sides a.self.now.prices a.self.now.sizes a.self.now.owners a.self.now.numbers c.requires.fit a.side a.bound.0 a.q.0 a.allocation n) (nothing_counted a.self.now.sides a.self.now.prices a.self.now.sizes a.self.now.owners a.self.now.numbers c.requires.fit a.side a.bound.0 a.q.0 a.allocation n) }

pub record-fills-requires : goal.record-fills-requires
record-fills-requires c =
    let a = c.args in
    record { distinct = took_apart a.self.now.sides a.self.now.prices a.self.now.sizes a.self.now.owners a.self.now.numbers c.requires.fit a.side a.bound.0 a.q.0 a.allocation _ c.shares-quantities.ensures }

pub returns : goal.returns
returns c =
    let a = c.args in
    let are = c.shares-quantities.ensures in
    record {
      numbers_value = trade_leaves a.self.now.sides a.self.now.prices a.self.now.sizes a.self.now.owners a.self.now.numbers c.requires.fit a.side a.bound.0 a.q.0 a.allocation _ are _ c.remove.ensures;
      lent_after = trade_writes a.self.now.sides a.self.now.prices a.self.now.sizes a.self.now.owners a.self.now.numbers c.requires.fit a.side a.bound.0 a.q.0 a.allocation _ are _ _ c.record-fills.ensures.lent_after;
      shared_after = trade_shares a.self.now.sides a.self.now.prices a.self.now.sizes a.self.now.owners a.self.now.numbers c.requires.fit a.side a.bound.0 a.q.0 a.allocation _ are;
      value = trade_answers a.self.now.sides a.self.now.prices a.self.now.sizes a.self.now.owners a.self.now.numbers c.requires.fit a.side a.bound.0 a.q.0 a.allocation _ _ (trade_fills a.self.now.sides a.self.now.prices a.self.now.sizes a.self.now.owners a.self.now.numbers c.requires.fit a.side a.bound.0 a.q.0 a.allocation _ _ c.fillable.ensures c.resting_within-all.ensures) (trade_counts a.self.now.sides a.self.now.prices a.self.now.sizes a.self.now.owners a.self.now.numbers c.requires.fit a.side a.bound.0 a.q.0 a.allocation _ are _ c.record-fills.ensures.value);
    }
