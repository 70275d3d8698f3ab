-- A new order: its three cases as the code meets them, and what each rests on.
use Rattle.std.specs.Prelude.{◌≡◌, List, ℕ, ◌+◌, ◌*◌, ◌-◌, ◌≤◌, ◌<◌, ◌^◌}
use Rattle.std.proofs.Common.{sym, ◌∙◌, subst, mul-le-mul_left, arith}
use Rattle.std.proofs.Math.Path.{ap}
use Rattle.units.specs.declared.Cents.{Cents}
use Rattle.units.specs.Units.{cents}
use Rattle.book.specs.Book.{best_bid, best_offer, resting_of}
use Rattle.book.specs.Sound.{resting}
use Rattle.entry.specs.declared.Entry.{Entry}
use Rattle.entry.specs.declared.Quotes.{Quotes}
use Rattle.rows.specs.Rows.{largest, last_number, no_number}
use Rattle.entry.specs.Quotes.{quotes_of}
use Rattle.checks.specs.declared.Standing.{Standing}
use Rattle.judge.specs.Judged.{Judged, Rests, Trades}
use Rattle.judge.specs.Verdict.{verdict}
use Rattle.judge.specs.VerdictLaws.{Taken, Ruled, ruled, taken_proper}
use Rattle.tally.specs.Tallies.{bought_in_all, sold_in_all}
use Rattle.dealing.specs.Floor.{Floor}
use Rattle.dealing.specs.Settle.{Settles}
use Rattle.dealing.specs.Deal.{quotes_on, standing_on, by_verdict, ordered}
use Rattle.dealing.specs.Demands.{CanTrade, CanOrder}

-- the quotes and where the tenant stands, as the code works them out
module _ (f : Floor) where
  pub quoted_is :
      (bid offer : Cents) (q : Quotes) → bid ≡ cents (best_bid f.book) → offer ≡ cents (best_offer f.book) → q ≡ quotes_of bid.0 offer.0 f.series.away →
      q ≡ quotes_on f
  unfolding quotes_on
  quoted_is bid offer q e g h = rw (e, g) at h

  pub stands_is :
      (t r : ℕ) → r ≡ resting_of f.book t → ◌≡◌ {A = Standing} (record { opened = f.series.opened; resting = r; next = f.number }) (standing_on f t)
  stands_is t r e = rw e

-- 999,999 for each number given is far below what 64 bits hold
pub sums_fit : (n all size : ℕ) → n ≤ no_number → all ≤ largest * (n - 1) → size ≤ largest → all + size < 2 ^ 64
sums_fit n all size h a z = omega (arith, mul-le-mul_left largest (less_one n h))
  where
    less_one : (n : ℕ) → n ≤ no_number → n - 1 ≤ last_number
    less_one n h = omega arith

module _ (f : Floor) (t : ℕ) (e : Entry) (was : List ℕ) (can : CanOrder f t e was) (q : Quotes) (quoted : q ≡ quotes_on f)
    (standing : Standing) (stands : standing ≡ standing_on f t) (v : Judged) (judged : v ≡ verdict e q f.series.terms standing) where
  told : (j : Judged) → v ≡ j → Ruled e q f.series.terms standing j
  told j is = subst (Ruled e q f.series.terms standing) (sym judged ∙ is) (ruled e q f.series.terms standing)

  -- an order taken is proper, and settles on the sound book
  settles : (j : Entry) → Taken e q f.series.terms standing j → Settles f.tallies t j f.book was
  settles j k =
      let r = can.ready in
      let proper = taken_proper e q f.series.terms standing can.new j r.terms.low_least r.terms.low_most k in
      record {
        next = f.number;
        next_most = r.next_most;
        sound = r.book;
        proper = proper;
        tenant = can.tenant;
        records_long = can.records_long;
        long = r.tallies.long;
        turns = omega (arith, r.tallies.turns);
        bought = sums_fit f.number (bought_in_all f.tallies + resting f.book) j.size.0 r.next_most r.tallies.bought proper.size_most;
        sold = sums_fit f.number (sold_in_all f.tallies + resting f.book) j.size.0 r.next_most r.tallies.sold proper.size_most;
      }

  -- the number left, by where the tenant stands
  left : (j : Entry) → Taken e q f.series.terms standing j → f.number ≤ last_number
  left j k = rw stands at k.number_left

  pub can_rest : (j : Entry) → v ≡ Rests j → f.number ≤ last_number
  can_rest j is = left j (told (Rests j) is).1

  pub can_trade : (j : Entry) (bound : Cents) → v ≡ Trades j bound → CanTrade f t j q was
  can_trade j bound is =
      let k = (told (Trades j bound) is).1 in
      record { settles = settles j k; quoted = quoted; numbered = left j k }

  pub by_verdict_lem : (j : Judged) → v ≡ j → by_verdict f t was j ≡ ordered f t was e
  unfolding ordered
  by_verdict_lem j is = ap (by_verdict f t was) (sym is ∙ rw (quoted, stands) at judged)

-- What a new order's verdict gives, in its three cases: an order at rest has a number left, one that trades may settle,
-- and what the case makes is the definition's.
pub record Told (f : Floor) (t : ℕ) (e : Entry) (was : List ℕ) (q : Quotes) (v : Judged) : Type 0 where
  pub left : (j : Entry) → v ≡ Rests j → f.number ≤ last_number
  pub ready : (j : Entry) (bound : Cents) → v ≡ Trades j bound → CanTrade f t j q was
  pub makes : (j : Judged) → v ≡ j → by_verdict f t was j ≡ ordered f t was e

pub told_of :
    (f : Floor) (t : ℕ) (e : Entry) (was : List ℕ) → CanOrder f t e was → (bid offer : Cents) (q : Quotes) (r : ℕ) (v : Judged) →
    bid ≡ cents (best_bid f.book) → offer ≡ cents (best_offer f.book) → q ≡ quotes_of bid.0 offer.0 f.series.away → r ≡ resting_of f.book t →
    v ≡ verdict e q f.series.terms (record { opened = f.series.opened; resting = r; next = f.number }) →
    Told f t e was q v
told_of f t e was can bid offer q r v bid_is offer_is quotes_are resting_is judged =
    let quoted = quoted_is f bid offer q bid_is offer_is quotes_are in
    let stands = stands_is f t r resting_is in
    record {
      left = can_rest f t e was can q quoted _ stands v judged;
      ready = can_trade f t e was can q quoted _ stands v judged;
      makes = by_verdict_lem f t e was can q quoted _ stands v judged;
    }
