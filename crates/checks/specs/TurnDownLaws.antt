-- Each number is given exactly in its case; what is left where the first tests fail; and what holds of an order that is
-- not turned down.
use Rattle.std.specs.Prelude.{◌≡◌, true, false, List, ℕ, ◌≤◌, ◌<◌, drop}
use Rattle.std.proofs.Math.Path.{refl}
use borrow.Author.Tests.{ltb-false, leb-false}
use Rattle.units.specs.Tests.{◌and◌, pick, and_false, or_false, not_fails}
use Rattle.units.specs.Cases.{Case, first_of}
use Rattle.units.specs.CaseLaws.{GivenBy, first_given, all_fail}
use Rattle.rows.specs.Rows.{rows_a_tenant, last_number}
use Rattle.entry.specs.declared.Entry.{Entry}
use Rattle.entry.specs.declared.Quotes.{Quotes}
use Rattle.entry.specs.declared.Terms.{Terms}
use Rattle.entry.specs.Entry.{is_market, is_now}
use Rattle.checks.specs.declared.Standing.{Standing}
use Rattle.checks.specs.TurnDown.{not_yet, unbid, converts, as_judged, might_rest, no_room, used_up, turn_downs, turn_down}

-- the cases after the first k decide
abbrev pub Past : ℕ → List Case → Type 0
Past k cs = first_of 0 cs ≡ first_of 0 (drop k cs)

module _ (e : Entry) (q : Quotes) (t : Terms) (s : Standing) where
  -- each of the nine numbers is given exactly where the tests before its own fail and its own holds; and an order is
  -- not turned down exactly where every test fails
  pub turned_down_by : GivenBy (turn_down e q t s) 0 (turn_downs e q t s)
  unfolding turn_down
  turned_down_by = first_given 0 (turn_downs e q t s) refl

  module _ (taken : turn_down e q t s ≡ 0) where
    -- there is a number for it
    pub number_left : s.next ≤ last_number
    unfolding used_up
    number_left = ltb-false last_number s.next (all_fail turned_down_by taken 8)

    -- and a row of its tenant's, if it might rest
    pub room_left : might_rest (as_judged e q t) ≡ true → s.resting < rows_a_tenant
    unfolding no_room
    room_left h = leb-false rows_a_tenant s.resting (and_false _ _ (all_fail turned_down_by taken 7) h)

    module _ (shut : s.opened ≡ false) where
      -- before the opening it is a day limit
      pub day_limit : (is_market e ≡ false) × (is_now e ≡ false)
      unfolding not_yet
      day_limit = or_false (is_market e) (is_now e) (and_false _ _ (all_fail turned_down_by taken 0) (not_fails s.opened shut))

      -- and is judged as it is
      pub unchanged : as_judged e q t ≡ e
      unfolding as_judged converts unbid pick ◌and◌
      unchanged = rw day_limit.0
