-- The turn-downs in the words of the paper: what the test of each number says, and what an order is judged as.
use mathlib.Core.Logic.Iff
use Rattle.std.specs.Prelude.{◌≡◌, refl, ◌↔◌, ◌⊎◌, true, false, ◌+◌, ◌-◌, ◌*◌, ◌≤◌, ◌<◌}
use Rattle.units.specs.Grid.{lowest_of}
use Rattle.units.specs.GridLaws.{StepDivides, on_says}
use Rattle.units.specs.Tests.{pick_yes, pick_no, fails}
use Rattle.units.specs.Says.{not_says, same_says, less_says, most_says, denied_says, and_says, or_says}
use Rattle.entry.specs.declared.Entry.{Entry}
use Rattle.entry.specs.declared.Quotes.{Quotes}
use Rattle.entry.specs.declared.Terms.{Terms}
use Rattle.checks.specs.declared.Standing.{Standing}
use Rattle.checks.specs.TurnDown.{not_yet, off_grid, at_strike, no_offer, unbid, no_bid, converts, as_judged, above_percent, too_wide, far_buy, far_sell, far_price, might_rest, no_room, used_up}

-- 14's other half: a market sell with no NBB and an offer of at most 50 (absent counts as 0)
abbrev pub BecomesLimit : Entry → Quotes → Type 0
BecomesLimit e q = (e.kind ≡ 2) × (e.side ≡ 2) × (q.nbb.0 ≡ 0) × (q.nbo.0 ≤ 50)

-- an order e is judged as j
pub record JudgedAs (e : Entry) (q : Quotes) (t : Terms) (j : Entry) : Type 0 where
  -- such an order becomes a limit sell at the grid's lowest step,
  pub converted : BecomesLimit e q
      → j ≡ record { kind = 1; side = 2; life = e.life; price = lowest_of t.grid; size = e.size; number = e.number }
  -- and any other is judged as it is
  pub unchanged : (BecomesLimit e q → ⊥) → j ≡ e

module _ (e : Entry) (q : Quotes) (t : Terms) (s : Standing) where
  pub not_yet_says : (not_yet e s ≡ true) ↔ ((s.opened ≡ false) × ((e.kind ≡ 2) ⊎ (e.life ≡ 2)))
  unfolding not_yet
  not_yet_says = and_says (not_says _) (or_says (same_says _ _) (same_says _ _))

  pub off_grid_says : (off_grid e t ≡ true) ↔ ((e.kind ≡ 1) × (StepDivides t.grid e.price.0 → ⊥))
  unfolding off_grid
  off_grid_says = and_says (same_says _ _) (denied_says (on_says t.grid e.price))

  pub at_strike_says : (at_strike e t ≡ true) ↔ ((e.kind ≡ 1) × (e.side ≡ 1) × (t.put ≡ true) × (t.strike.0 ≤ e.price.0))
  unfolding at_strike
  at_strike_says = Iff.trans
      (and_says (and_says (same_says _ _) (same_says _ _)) (and_says Iff.rfl (most_says _ _)))
      (λ ((k, side), (put, least)). (k, side, put, least), λ (k, side, put, least). ((k, side), (put, least)))

  pub no_offer_says : (no_offer e q ≡ true) ↔ ((e.kind ≡ 2) × (e.side ≡ 1) × (q.nbo.0 ≡ 0))
  unfolding no_offer
  no_offer_says = Iff.trans
      (and_says (and_says (same_says _ _) (same_says _ _)) (same_says _ _))
      (λ ((k, side), none). (k, side, none), λ (k, side, none). ((k, side), none))

  unbid_says : (unbid e q ≡ true) ↔ ((e.kind ≡ 2) × (e.side ≡ 2) × (q.nbb.0 ≡ 0))
  unfolding unbid
  unbid_says = Iff.trans
      (and_says (and_says (same_says _ _) (same_says _ _)) (same_says _ _))
      (λ ((k, side), none). (k, side, none), λ (k, side, none). ((k, side), none))

  pub no_bid_says : (no_bid e q ≡ true) ↔ ((e.kind ≡ 2) × (e.side ≡ 2) × (q.nbb.0 ≡ 0) × (50 < q.nbo.0))
  unfolding no_bid
  no_bid_says = Iff.trans
      (and_says unbid_says (less_says _ _))
      (λ ((k, side, none), high). (k, side, none, high), λ (k, side, none, high). ((k, side, none), high))

  converts_says : (converts e q ≡ true) ↔ BecomesLimit e q
  unfolding converts
  converts_says = Iff.trans
      (and_says unbid_says (most_says _ _))
      (λ ((k, side, none), low). (k, side, none, low), λ (k, side, none, low). ((k, side, none), low))

  pub judged_says : JudgedAs e q t (as_judged e q t)
  unfolding as_judged
  judged_says = record {
    converted = λ c. rw (pick_yes _ _ (converts_says.1 c), c.1) refl;
    unchanged = λ n. pick_no _ _ (fails _ (λ h. n (converts_says.0 h)));
  }

  -- with w = NBO − NBB, 0 if locked or crossed
  pub too_wide_says : (too_wide e q t ≡ true) ↔
      ((e.kind ≡ 2) × (0 < q.nbb.0) × (0 < q.nbo.0) × (t.least.0 < q.nbo.0 - q.nbb.0)
      × ((t.greatest.0 < q.nbo.0 - q.nbb.0) ⊎ (t.percent * (q.nbb.0 + q.nbo.0) < 200 * (q.nbo.0 - q.nbb.0))))
  unfolding too_wide above_percent
  too_wide_says = Iff.trans
      (and_says (and_says (same_says _ _) (and_says (less_says _ _) (less_says _ _))) (and_says (less_says _ _) (or_says (less_says _ _) (less_says _ _))))
      (λ ((k, (bid, offer)), (wide, wider)). (k, bid, offer, wide, wider), λ (k, bid, offer, wide, wider). ((k, (bid, offer)), (wide, wider)))

  far_buy_says : (far_buy e q t ≡ true) ↔ ((e.side ≡ 1) × (0 < q.nbo.0) × (q.nbo.0 + t.far.0 < e.price.0))
  unfolding far_buy
  far_buy_says = Iff.trans
      (and_says (and_says (same_says _ _) (less_says _ _)) (less_says _ _))
      (λ ((side, offer), far). (side, offer, far), λ (side, offer, far). ((side, offer), far))

  far_sell_says : (far_sell e q t ≡ true) ↔ ((e.side ≡ 2) × (0 < q.nbb.0) × (e.price.0 + t.far.0 < q.nbb.0))
  unfolding far_sell
  far_sell_says = Iff.trans
      (and_says (and_says (same_says _ _) (less_says _ _)) (less_says _ _))
      (λ ((side, bid), far). (side, bid, far), λ (side, bid, far). ((side, bid), far))

  pub far_price_says : (far_price e q t s ≡ true) ↔
      ((s.opened ≡ true) × (e.kind ≡ 1)
      × (((e.side ≡ 1) × (0 < q.nbo.0) × (q.nbo.0 + t.far.0 < e.price.0))
      ⊎ ((e.side ≡ 2) × (0 < q.nbb.0) × (e.price.0 + t.far.0 < q.nbb.0))))
  unfolding far_price
  far_price_says = Iff.trans
      (and_says (and_says Iff.rfl (same_says _ _)) (or_says far_buy_says far_sell_says))
      (λ ((opened, k), far). (opened, k, far), λ (opened, k, far). ((opened, k), far))

  pub might_rest_says : (might_rest e ≡ true) ↔ ((e.kind ≡ 1) × (e.life ≡ 1))
  unfolding might_rest
  might_rest_says = and_says (same_says _ _) (same_says _ _)

  pub no_room_says : (no_room e s ≡ true) ↔ ((e.kind ≡ 1) × (e.life ≡ 1) × (24 ≤ s.resting))
  unfolding no_room
  no_room_says = Iff.trans
      (and_says might_rest_says (most_says _ _))
      (λ ((k, day), many). (k, day, many), λ (k, day, many). ((k, day), many))

  pub used_up_says : (used_up s ≡ true) ↔ (4294967295 < s.next)
  unfolding used_up
  used_up_says = less_says _ _
