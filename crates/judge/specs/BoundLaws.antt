-- A bound is a price, never worse than the limit or the away quote; and an order that rests on an open market has its
-- limit as its bound.
use Rattle.std.specs.Prelude.{◌≡◌, true, ◌≤◌, ltb}
use Rattle.std.proofs.Common.{⊎_elim, le_refl, le_antisymm, arith}
use borrow.Author.Tests.{eqb-true, ne_eqb, ltb-true, lt-ltb}
use Rattle.units.specs.declared.Contracts.{Contracts}
use Rattle.units.specs.Grid.{lowest_of}
use Rattle.units.specs.Tests.{pick_yes, pick_no, and_true, holds_not_fails}
use Rattle.units.specs.Cases.{least_of, greatest_of}
use Rattle.units.specs.CaseBounds.{lower_above, higher_below, least_start, least_most, greatest_start, greatest_least}
use Rattle.rows.specs.Rows.{highest}
use Rattle.entry.specs.declared.Entry.{Entry}
use Rattle.entry.specs.declared.Quotes.{Quotes}
use Rattle.entry.specs.declared.Terms.{Terms}
use Rattle.entry.specs.Numbers.{present}
use Rattle.entry.specs.Entry.{is_limit, is_buy, is_sell, new_order}
use Rattle.entry.specs.EntryLaws.{Proper, new_proper}
use Rattle.checks.specs.AsJudgedLaws.{day_limit_might_rest, judged_proper}
use Rattle.checks.specs.TurnDown.{as_judged, might_rest}
use Rattle.judge.specs.Bound.{buy_bars, sell_bars, buy_bound, sell_bound, bound_of}
use Rattle.judge.specs.Disposition.{disposition_of}
use Rattle.judge.specs.DispositionLaws.{rests_day_limit, within_drill_buy, within_drill_sell, short_of_offer, short_of_bid}

module _ (e : Entry) (q : Quotes) (t : Terms) where
  pub buy_is : is_buy e ≡ true → (bound_of e q t).0 ≡ least_of highest (buy_bars e q t)
  unfolding bound_of buy_bound
  buy_is h = pick_yes _ _ h

  pub sell_is : is_sell e ≡ true → (bound_of e q t).0 ≡ greatest_of 1 (sell_bars e q t)
  unfolding bound_of sell_bound
  sell_is h = let k = eqb-true e.side 2 h in pick_no _ _ (ne_eqb e.side 1 (λ f. omega arith))

  pub buy_most : is_buy e ≡ true → (bound_of e q t).0 ≤ highest
  buy_most b = rw (buy_is b) (least_start highest (buy_bars e q t))

  pub buy_limit : is_buy e ≡ true → is_limit e ≡ true → (bound_of e q t).0 ≤ e.price.0
  buy_limit b h = rw (buy_is b) (least_most highest (buy_bars e q t) 0 (omega arith) h)

  pub buy_away : is_buy e ≡ true → present q.away.offer ≡ true → (bound_of e q t).0 ≤ q.away.offer.0
  buy_away b h = rw (buy_is b) (least_most highest (buy_bars e q t) 1 (omega arith) h)

  pub sell_least : is_sell e ≡ true → 1 ≤ (bound_of e q t).0
  sell_least s = rw (sell_is s) (greatest_start 1 (sell_bars e q t))

  pub sell_limit : is_sell e ≡ true → is_limit e ≡ true → e.price.0 ≤ (bound_of e q t).0
  sell_limit s h = rw (sell_is s) (greatest_least 1 (sell_bars e q t) 0 (omega arith) h)

  pub sell_away : is_sell e ≡ true → present q.away.bid ≡ true → q.away.bid.0 ≤ (bound_of e q t).0
  sell_away s h = rw (sell_is s) (greatest_least 1 (sell_bars e q t) 1 (omega arith) h)

  module _ (left : Contracts) (rests : disposition_of e q t left ≡ 1) where
    pub buy_rests : is_buy e ≡ true → is_limit e ≡ true → e.price.0 ≤ highest → (bound_of e q t).0 ≡ e.price.0
    buy_rests b l high = le_antisymm (buy_limit b l)
        (rw (buy_is b)
        (lower_above _ _ _ _ (λ _. le_refl _)
        (lower_above _ _ _ _ (λ h. omega (arith, short_of_offer e q t left rests b h))
        (lower_above _ _ _ _ (within_drill_buy e q t left rests b)
        (lower_above _ _ _ _ (λ h. absurd (holds_not_fails (and_true _ _ h).0 (rests_day_limit e q t left rests).0)) high)))))

    pub sell_rests : is_sell e ≡ true → is_limit e ≡ true → 1 ≤ e.price.0 → (bound_of e q t).0 ≡ e.price.0
    sell_rests s l low = le_antisymm
        (rw (sell_is s)
        (higher_below _ _ _ _ (λ _. le_refl _)
        (higher_below _ _ _ _ (λ h. omega (arith, short_of_bid e q t left rests s h))
        (higher_below _ _ _ _ (λ h. within_drill_sell e q t left rests s (bid_there h)) low))))
        (sell_limit s l)
      where
        bid_there : ltb t.drill.0 q.nbb.0 ≡ true → present q.nbb ≡ true
        bid_there h = let k = ltb-true t.drill.0 q.nbb.0 h in lt-ltb 0 q.nbb.0 (omega arith)

    module _ (p : Proper e) where
      -- an order that rests is a limit for the day
      pub rests_might : might_rest e ≡ true
      rests_might = let n = rests_day_limit e q t left rests in day_limit_might_rest e p n.0 n.1

      rests_limit : is_limit e ≡ true
      unfolding might_rest
      rests_limit = (and_true (is_limit e) _ rests_might).0

      -- and its limit is its bound: it has traded with all that was within its limit
      pub rests_at_limit : (bound_of e q t).0 ≡ e.price.0
      rests_at_limit = ⊎_elim
          (λ (b : is_buy e ≡ true). buy_rests b rests_limit (p.price_most rests_limit))
          (λ (s : is_sell e ≡ true). sell_rests s rests_limit (p.price_least rests_limit))
          p.sided

-- so it is of a well-formed new order as judged
pub judged_rests : (e : Entry) (q : Quotes) (t : Terms) (left : Contracts) → new_order e ≡ true
    → 1 ≤ (lowest_of t.grid).0 → (lowest_of t.grid).0 ≤ highest → disposition_of (as_judged e q t) q t left ≡ 1
    → (might_rest (as_judged e q t) ≡ true) × ((bound_of (as_judged e q t) q t).0 ≡ (as_judged e q t).price.0)
judged_rests e q t left h low high rests =
    let p = judged_proper e q t (new_proper e h) low high in
    (rests_might (as_judged e q t) q t left rests p, rests_at_limit (as_judged e q t) q t left rests p)
