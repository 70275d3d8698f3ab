-- The dispositions and the bound in the words of the paper: what each test says, and which prices are within the bound.
use mathlib.Core.Logic.Iff
use Rattle.std.specs.Prelude.{◌≡◌, ◌↔◌, ◌⊎◌, true, ℕ, ◌+◌, ◌-◌, ◌≤◌, ◌<◌}
use Rattle.std.proofs.Common.{arith, eq-eqb, eqb-true, lt-ltb, ltb-true}
use Rattle.units.specs.Tests.{and_true, and_holds}
use Rattle.units.specs.Says.{same_says, less_says, most_says, and_says, or_says}
use Rattle.units.specs.CaseBounds.{lower_above, higher_below, least_most, greatest_least}
use Rattle.rows.specs.Rows.{highest}
use Rattle.entry.specs.declared.Entry.{Entry}
use Rattle.entry.specs.declared.Quotes.{Quotes}
use Rattle.entry.specs.declared.Terms.{Terms}
use Rattle.judge.specs.Bound.{buy_bars, sell_bars, bound_of}
use Rattle.judge.specs.BoundLaws.{buy_is, sell_is}
use Rattle.judge.specs.Disposition.{beyond_drill, at_away}

-- a price is within the buy bound: at most the limit; the away offer if any; NBO + D if any; and below the strike for a
-- market buy of a put
pub record WithinBuy (j : Entry) (q : Quotes) (t : Terms) (price : ℕ) : Type 0 where
  pub limit : j.kind ≡ 1 → price ≤ j.price.0
  pub away : 0 < q.away.offer.0 → price ≤ q.away.offer.0
  pub drill : 0 < q.nbo.0 → price ≤ q.nbo.0 + t.drill.0
  pub strike : j.kind ≡ 2 → t.put ≡ true → price < t.strike.0

-- a price is within the sell bound: at least the limit; the away bid if any; NBB − D if any and at least 1
pub record WithinSell (j : Entry) (q : Quotes) (t : Terms) (price : ℕ) : Type 0 where
  pub limit : j.kind ≡ 1 → j.price.0 ≤ price
  pub away : 0 < q.away.bid.0 → q.away.bid.0 ≤ price
  pub drill : 0 < q.nbb.0 → 1 ≤ q.nbb.0 - t.drill.0 → q.nbb.0 - t.drill.0 ≤ price

module _ (j : Entry) (q : Quotes) (t : Terms) where
  pub beyond_drill_says : (beyond_drill j q t ≡ true) ↔
      (((j.side ≡ 1) × (0 < q.nbo.0) × (q.nbo.0 + t.drill.0 < j.price.0))
      ⊎ ((j.side ≡ 2) × (0 < q.nbb.0) × (j.price.0 + t.drill.0 < q.nbb.0)))
  unfolding beyond_drill
  beyond_drill_says = or_says
      (Iff.trans (and_says (and_says (same_says _ _) (less_says _ _)) (less_says _ _))
      (λ ((side, offer), far). (side, offer, far), λ (side, offer, far). ((side, offer), far)))
      (Iff.trans (and_says (and_says (same_says _ _) (less_says _ _)) (less_says j.price.0 (q.nbb.0 - t.drill.0)))
      (λ ((side, bid), far). (side, bid, omega arith), λ (side, bid, far). ((side, bid), omega arith)))

  pub at_away_says : (at_away j q ≡ true) ↔
      (((j.side ≡ 1) × (0 < q.away.offer.0) × (q.away.offer.0 ≤ j.price.0))
      ⊎ ((j.side ≡ 2) × (0 < q.away.bid.0) × (j.price.0 ≤ q.away.bid.0)))
  unfolding at_away
  at_away_says = or_says
      (Iff.trans (and_says (and_says (same_says _ _) (less_says _ _)) (most_says _ _))
      (λ ((side, offer), at). (side, offer, at), λ (side, offer, at). ((side, offer), at)))
      (Iff.trans (and_says (and_says (same_says _ _) (less_says _ _)) (most_says _ _))
      (λ ((side, bid), at). (side, bid, at), λ (side, bid, at). ((side, bid), at)))

  module _ (price : ℕ) where
    -- a price is not above the buy bound exactly if it is within each of its parts
    pub buy_bound_says : j.side ≡ 1 → 1 ≤ price → price ≤ highest → (price ≤ (bound_of j q t).0) ↔ WithinBuy j q t price
    buy_bound_says side least most =
        let bars = buy_bars j q t in
        rw (buy_is j q t (eq-eqb j.side 1 side)) (
          λ h. record {
            limit = λ k. omega (arith, least_most highest bars 0 (omega arith) (eq-eqb j.kind 1 k));
            away = λ k. omega (arith, least_most highest bars 1 (omega arith) (lt-ltb 0 q.away.offer.0 k));
            drill = λ k. omega (arith, least_most highest bars 2 (omega arith) (lt-ltb 0 q.nbo.0 k));
            strike = λ k put. omega (arith, least_most highest bars 3 (omega arith) (and_holds _ _ (eq-eqb j.kind 2 k) put));
          },
          λ w.
              lower_above _ _ _ _ (λ h. w.limit (eqb-true j.kind 1 h))
              (lower_above _ _ _ _ (λ h. w.away (ltb-true 0 q.away.offer.0 h))
              (lower_above _ _ _ _ (λ h. w.drill (ltb-true 0 q.nbo.0 h))
              (lower_above _ _ _ _ (λ h. (let (k, put) = and_true _ _ h in omega (arith, w.strike (eqb-true j.kind 2 k) put))) most))),
        )

    -- and not below the sell bound exactly if within each of its parts
    pub sell_bound_says : j.side ≡ 2 → 1 ≤ price → ((bound_of j q t).0 ≤ price) ↔ WithinSell j q t price
    sell_bound_says side least =
        let bars = sell_bars j q t in
        rw (sell_is j q t (eq-eqb j.side 2 side)) (
          λ h. record {
            limit = λ k. omega (arith, greatest_least 1 bars 0 (omega arith) (eq-eqb j.kind 1 k));
            away = λ k. omega (arith, greatest_least 1 bars 1 (omega arith) (lt-ltb 0 q.away.bid.0 k));
            drill = λ _ k. omega (arith, greatest_least 1 bars 2 (omega arith) (lt-ltb t.drill.0 q.nbb.0 (omega arith)));
          },
          λ w.
              higher_below _ _ _ _ (λ h. w.limit (eqb-true j.kind 1 h))
              (higher_below _ _ _ _ (λ h. w.away (ltb-true 0 q.away.bid.0 h))
              (higher_below _ _ _ _ (λ h. (let k = ltb-true t.drill.0 q.nbb.0 h in w.drill (omega arith) (omega arith))) least)),
        )
