-- The three cases of a verdict, and what each says of the order as judged.
use Rattle.std.specs.Prelude.{◌≡◌, Bool, ltb, ℕ, ◌≤◌, ◌<◌}
use Rattle.std.proofs.Math.Path.{refl}
use Rattle.std.proofs.Common.{sym, ◌∙◌, subst, arith}
use Rattle.std.proofs.Math.Bool.{true, false}
use borrow.Author.Tests.{lt-ltb, le-ltb, ltb-true, ltb-false}
use Rattle.units.specs.declared.Cents.{Cents}
use Rattle.units.specs.declared.Contracts.{Contracts}
use Rattle.units.specs.Grid.{lowest_of}
use Rattle.units.specs.Tests.{pick}
use Rattle.rows.specs.Rows.{rows_a_tenant, highest, last_number}
use Rattle.entry.specs.declared.Entry.{Entry}
use Rattle.entry.specs.declared.Quotes.{Quotes}
use Rattle.entry.specs.declared.Terms.{Terms}
use Rattle.entry.specs.Entry.{new_order}
use Rattle.entry.specs.EntryLaws.{Proper, new_proper}
use Rattle.checks.specs.declared.Standing.{Standing}
use Rattle.checks.specs.AsJudgedLaws.{day_limit_might_rest, judged_proper}
use Rattle.checks.specs.TurnDown.{as_judged, might_rest, turn_down}
use Rattle.checks.specs.TurnDownLaws.{number_left, room_left, day_limit, unchanged}
use Rattle.judge.specs.Judged.{Judged, TurnedDown, Rests, Trades}
use Rattle.judge.specs.Bound.{bound_of}
use Rattle.judge.specs.BoundLaws.{judged_rests}
use Rattle.judge.specs.Disposition.{disposition_of}
use Rattle.judge.specs.Verdict.{verdict}

-- the verdict, from its number, the order as judged and its bound
module _ (e : Entry) (q : Quotes) (t : Terms) (s : Standing) (n : ℕ) (number : n ≡ turn_down e q t s) where
  pub turned_down : 0 < n → TurnedDown n ≡ verdict e q t s
  unfolding pick verdict
  turned_down h = rw (← number, lt-ltb 0 n h)

  module _ (none : n ≤ 0) (j : Entry) (as_judged_lem : j ≡ as_judged e q t) where
    pub trades : (b : Cents) → s.opened ≡ true → b ≡ bound_of j q t → Trades j b ≡ verdict e q t s
    unfolding pick verdict
    trades b h g = rw (← number, le-ltb 0 n none, h, g, as_judged_lem)

    pub rests : s.opened ≡ false → Rests j ≡ verdict e q t s
    unfolding pick verdict
    rests h = rw (← number, le-ltb 0 n none, h, as_judged_lem)

-- the order as judged, not turned down: there is a number for it and, if it might rest, a row of its tenant's
pub record Taken (e : Entry) (q : Quotes) (t : Terms) (s : Standing) (j : Entry) : Type 0 where
  pub as_judged_lem : j ≡ as_judged e q t
  pub not_turned_down : turn_down e q t s ≡ 0
  pub number_left : s.next ≤ last_number
  pub room_left : might_rest j ≡ true → s.resting < rows_a_tenant

module _ (e : Entry) (q : Quotes) (t : Terms) (s : Standing) where
  -- what each verdict says: the number given; before the opening the order taken; after it the order taken and its
  -- bound
  abbrev pub Ruled : Judged → Type 0
  Ruled (TurnedDown n) = (n ≡ turn_down e q t s) × (0 < n)
  Ruled (Rests j) = (s.opened ≡ false) × Taken e q t s j
  Ruled (Trades j b) = (s.opened ≡ true) × Taken e q t s j × (b ≡ bound_of j q t)

  taken : ltb 0 (turn_down e q t s) ≡ false → Taken e q t s (as_judged e q t)
  taken h =
      let none : turn_down e q t s ≡ 0 = omega (arith, ltb-false 0 (turn_down e q t s) h) in
      record {
        as_judged_lem = refl;
        not_turned_down = none;
        number_left = number_left e q t s none;
        room_left = room_left e q t s none;
      }

  ruled_by : (d p : Bool) → ltb 0 (turn_down e q t s) ≡ d → s.opened ≡ p
      → Ruled (pick d (TurnedDown (turn_down e q t s)) (pick p (Trades (as_judged e q t) (bound_of (as_judged e q t) q t)) (Rests (as_judged e q t))))
  unfolding pick
  ruled_by true p h g = (refl, ltb-true 0 (turn_down e q t s) h)
  ruled_by false true h g = (g, taken h, refl)
  ruled_by false false h g = (g, taken h)

  -- every verdict says so
  pub ruled : Ruled (verdict e q t s)
  unfolding verdict
  ruled = ruled_by (ltb 0 (turn_down e q t s)) s.opened refl refl

  module _ (new : new_order e ≡ true) where
    -- what is taken of a well-formed new order is proper, where the grid's lowest step is a price
    pub taken_proper : (j : Entry) → 1 ≤ (lowest_of t.grid).0 → (lowest_of t.grid).0 ≤ highest → Taken e q t s j → Proper j
    taken_proper j low high k = rw k.as_judged_lem (judged_proper e q t (new_proper e new) low high)

    -- an order that rests before the opening is as given, a limit for the day
    pub rests_as_given : (j : Entry) → verdict e q t s ≡ Rests j → (j ≡ e) × (might_rest j ≡ true)
    rests_as_given j v =
        let (shut, k) = subst Ruled v ruled in
        let same = k.as_judged_lem ∙ unchanged e q t s k.not_turned_down shut in
        let d = day_limit e q t s k.not_turned_down shut in
        (same, rw same (day_limit_might_rest e (new_proper e new) d.0 d.1))

    -- an order that trades and then rests was bounded by nothing but its limit
    pub trades_then_rests : (j : Entry) (b : Cents) (left : Contracts) → 1 ≤ (lowest_of t.grid).0 → (lowest_of t.grid).0 ≤ highest
        → verdict e q t s ≡ Trades j b → disposition_of j q t left ≡ 1 → (might_rest j ≡ true) × (b.0 ≡ j.price.0)
    trades_then_rests j b left low high v d =
        let (_, k, bound) = subst Ruled v ruled in
        rw (bound, k.as_judged_lem) (judged_rests e q t left new low high (rw k.as_judged_lem at d))

  -- before the opening an order that is not turned down simply rests, unchanged
  pub simply_rests : s.opened ≡ false → turn_down e q t s ≡ 0 → verdict e q t s ≡ Rests e
  simply_rests shut none = sym (rests e q t s 0 (sym none) (omega arith) e (sym (unchanged e q t s none shut)) shut)
