-- Demand 2's turns: turn-downs and dispositions, each exactly in its case.
use mathlib.Core.Logic.Iff
use Rattle.std.specs.Prelude.{◌≡◌, ◌↔◌, true, false, List, ℕ, ◌+◌, ◌-◌, ◌<◌, eqb, take}
use Rattle.std.proofs.Math.Path.{refl}
use Rattle.std.proofs.Common.{sym, ap, ◌∙◌, arith}
use Rattle.units.specs.Units.{contracts}
use Rattle.units.specs.Tests.{pick, holds_not_fails}
use Rattle.units.specs.CountLaws.{one_count}
use Rattle.book.specs.Book.{resting_of, rested}
use Rattle.book.specs.Lookup.{FoundSays, code_of as code_found}
use Rattle.book.specs.LookupLaws.{found_says}
use Rattle.book.specs.BestLaws.{OwnRow, resting_counted}
use Rattle.entry.specs.Entry.{is_cancel}
use Rattle.checks.specs.TurnDown.{might_rest, turn_downs, turn_down}
use Rattle.checks.specs.Words.{might_rest_says}
use Rattle.judge.specs.Disposition.{dispositions, disposition_of}
use Rattle.lanes.specs.Rotation.{waits}
use Rattle.lanes.specs.Runs.{FirstBusy}
use Rattle.session.specs.Market.{Market}
use Rattle.session.specs.Sound.{Sound}
use Rattle.session.specs.Turn.{TurnDone, Printed, refused as refused_by, turned_down_by, cancelled_as, accepted_as, printed, fills_in, quotes_in, standing_of, turn_of}
use Rattle.demands.specs.Runs.{head_entry}
use Rattle.demands.specs.InOrder.{NoneOf, GivenInOrder}
use Rattle.demands.specs.InOrderLaws.{number_in_order, Comes, by_none, by_number, comes_in_order}
use Rattle.demands.specs.TurnCases.{values_of, lane_told, lane_told_lem, down_by, looked_up, filled_in, disposed_less, fills_by, trade_done, CancelOf, cancels, no_such, OrderOf, turned_down, rests, trades, OutcomeOf, of_cancel, of_order, first_busy, ServedAs, served_set, served_outcome, served_leaves, named, Outcome, refused, taken, outcome}
use Rattle.demands.specs.Demand2.{turn_printed, turn_fills, OrderAccepted, TakenBy, turn_down_rules, judged, disposition_rules, once_traded, RestsAs, AcceptedBy, TurnedDownInOrder}
use Rattle.demands.specs.RulesProof.{turn_downs_read, dispositions_read}
use Rattle.demands.specs.Demand2Refusals.{turn_taken}

-- ---- the lane served

pub served_as : (m : Market) (lent t : ℕ) → TakenBy m lent t → ServedAs m lent t
served_as m lent t k = record { not_refused = (turn_taken m lent).1 k.not_refused; lane = k.lane }

pub taken_by : (m : Market) (lent t : ℕ) → ServedAs m lent t → TakenBy m lent t
taken_by m lent t s = record { not_refused = (turn_taken m lent).0 s.not_refused; lane = s.lane }

pub set_in : (m : Market) (lent t : ℕ) → TakenBy m lent t → m.session.accepted ≡ true
set_in m lent t k = served_set m lent t (served_as m lent t k)

pub serves_first : (m : Market) (lent t : ℕ) → Sound m → TakenBy m lent t → FirstBusy (waits m.session.lanes) m.session.lanes.place t
serves_first m lent t sound k = first_busy m t (sound (set_in m lent t k)).lanes.marks.place k.lane

module _ (m : Market) (lent : ℕ) (was : List ℕ) where
  turn_is_taken : {d : TurnDone} → Outcome m lent was d → ((n : ℕ) → printed d.answer ≡ refused_by n → ⊥) → (t : ℕ) × TakenBy m lent t
  turn_is_taken (refused h) f = absurd (f _ refl)
  turn_is_taken (taken t s o) f = (t, taken_by m lent t s)

  -- the turn of a lane whose head is a new order, or a cancel
  module _ (t : ℕ) (k : TakenBy m lent t) where
    new_comes : is_cancel (head_entry m t) ≡ false → OrderOf m was t (turn_of m lent was)
    new_comes new = elim (served_outcome m lent was t (served_as m lent t k)) [
      | of_cancel c o ↦ absurd (holds_not_fails c new)
      | of_order c o ↦ o
    ]

    cancel_comes : is_cancel (head_entry m t) ≡ true → CancelOf m was t (turn_of m lent was)
    cancel_comes cancel = elim (served_outcome m lent was t (served_as m lent t k)) [
      | of_cancel c o ↦ o
      | of_order c o ↦ absurd (holds_not_fails cancel c)
    ]

-- ---- turn-downs

-- single values of what a turn answers
abbrev pub code_of : Printed → ℕ
code_of p = (values_of p).code

abbrev pub tenant_of : Printed → ℕ
tenant_of p = (values_of p).tenant

abbrev pub number_of : Printed → ℕ
number_of p = (values_of p).number

abbrev filled_of : Printed → ℕ
filled_of p = (values_of p).filled

abbrev pub disposed_of : Printed → ℕ
disposed_of p = (values_of p).disposition

module _ (m : Market) (was : List ℕ) (t : ℕ) where
  -- accepted with the next number
  accepted_by : (filled disposition : ℕ) → disposition < 5 → AcceptedBy m t (accepted_as t m.session.next filled disposition)
  accepted_by filled disposition less =
      record { filled = filled; disposition = disposition; order = record { values = refl; no_cancel = less } }

  down_comes : {d : TurnDone} → OrderOf m was t d → Comes (down_by m t) (λ n. printed d.answer ≡ turned_down_by t n) (AcceptedBy m t (printed d.answer))
  down_comes (turned_down h) = by_number h refl (λ k x. ap code_of x) (λ a. omega (arith, ap code_of a.order.values))
  down_comes (rests n o) = by_none n (accepted_by 0 1 (omega arith)) (λ k x. sym (ap code_of x))
  down_comes (trades n o) = by_none n (accepted_by _ _ (disposed_less m t)) (λ k x. sym (ap code_of x))

  down_in_order : {d : TurnDone} → OrderOf m was t d → GivenInOrder (turn_down_rules m t) (λ n. printed d.answer ≡ turned_down_by t n) (AcceptedBy m t (printed d.answer))
  unfolding turn_down
  down_in_order o =
      let cases = turn_downs (head_entry m t) (quotes_in m) m.session.terms (standing_of m t) in
      comes_in_order cases (turn_down_rules m t) refl (turn_downs_read m t) (down_comes o)

row_room_is : (m : Market) (lent t : ℕ) (was : List ℕ) → Sound m → TakenBy m lent t → is_cancel (head_entry m t) ≡ false
    → (turn_printed m lent was ≡ turned_down_by t 17)
    ↔ (NoneOf (take 7 (turn_down_rules m t)) × (might_rest (judged m t) ≡ true) × (resting_of m.book t ≡ 24))
row_room_is m lent t was sound k new =
    let given = (down_in_order m was t (new_comes m lent was t k new)).each 7 (omega arith) in
    let most = (sound (set_in m lent t k)).ready.book.room t (serves_first m lent t sound k).lane in
    let might = might_rest_says (judged m t) (quotes_in m) m.session.terms (standing_of m t) in (
      λ x.
          let (none, (limit, day, (n, counted, many))) = given.0 x in
          (none, might.1 (limit, day), omega (arith, one_count (OwnRow m.book t) (resting_counted m.book t) counted)),
      λ (none, resting, all).
          let (limit, day) = might.0 resting in
          given.1 (none, (limit, day, (resting_of m.book t, resting_counted m.book t, omega arith))),
    )

-- ---- cancels

module _ (m : Market) (was : List ℕ) (t : ℕ) where
  abbrev n : ℕ
  n = (head_entry m t).number

  abbrev says : FoundSays (RestsAs m.book t n) m.session.next n (looked_up m t)
  says = found_says m.book t n m.session.next

  -- a cancel is turned down by the number of what its lookup says, and accepted where that is 0
  cancel_down : {d : TurnDone} → CancelOf m was t d → (k : ℕ) → 0 < k → (printed d.answer ≡ turned_down_by t k) ↔ (code_found (looked_up m t) ≡ k)
  cancel_down (cancels row h) k some = (λ x. absurd (omega (arith, ap code_of x)), λ e. absurd (omega (arith, e, ap code_found h)))
  cancel_down (no_such is above) k some = (λ x. is ∙ ap code_of x, λ e. ap (turned_down_by t) (sym is ∙ e))

  cancel_accepts : {d : TurnDone} → CancelOf m was t d → (printed d.answer ≡ cancelled_as t n) ↔ (code_found (looked_up m t) ≡ 0)
  cancel_accepts (cancels row h) = (λ x. ap code_found h, λ e. refl)
  cancel_accepts (no_such is above) = (λ x. absurd (omega (arith, ap code_of x)), λ e. absurd (omega (arith, is, e)))

-- ---- accepted orders

-- what a turn d is, that before the opening accepts an order with such an answer
pub record RestedAs (m : Market) (was : List ℕ) (t : ℕ) (d : TurnDone) (number filled disposition : ℕ) : Type 0 where
  pub new : is_cancel (head_entry m t) ≡ false
  pub not_turned_down : down_by m t ≡ 0
  pub number_is : number ≡ m.session.next
  pub filled_is : filled ≡ 0
  pub disposition_is : disposition ≡ 1
  pub fills_is : fills_in d.answer ≡ 0
  pub records_are : d.records ≡ was
  pub next_is : d.market.session.next ≡ m.session.next + 1
  pub book_is : d.market.book ≡ rested m.book (judged m t).side (judged m t).price.0 (judged m t).size.0 t number

-- and that once open does
pub record TradedAs (m : Market) (was : List ℕ) (t : ℕ) (d : TurnDone) (number filled disposition : ℕ) : Type 0 where
  pub new : is_cancel (head_entry m t) ≡ false
  pub not_turned_down : down_by m t ≡ 0
  pub number_is : number ≡ m.session.next
  pub filled_is : filled ≡ filled_in m t
  pub disposition_is : disposition ≡ disposition_of (judged m t) (quotes_in m) m.session.terms (contracts ((judged m t).size.0 - filled))
  pub fills_is : fills_in d.answer ≡ fills_by m t
  pub records_are : d.records ≡ (trade_done m t was).records
  pub next_is : d.market.session.next ≡ m.session.next + 1
  pub book_is : d.market.book
      ≡ pick (eqb disposition 1) (rested (once_traded m t) (judged m t).side (judged m t).price.0 ((judged m t).size.0 - filled) t number) (once_traded m t)

module _ (m : Market) (was : List ℕ) (t number filled disposition : ℕ) where
  data AcceptedHow (d : TurnDone) : Type 0 where
    simply : m.session.opened ≡ false → RestedAs m was t d number filled disposition → AcceptedHow d
    by_trade : m.session.opened ≡ true → TradedAs m was t d number filled disposition → AcceptedHow d

  accepted_how : {d : TurnDone} → OutcomeOf m was t d → OrderAccepted (printed d.answer) t number filled disposition → AcceptedHow d
  accepted_how (of_cancel c (cancels row h)) x = absurd (omega (arith, ap disposed_of x.values, x.no_cancel))
  accepted_how (of_cancel c (no_such is above)) x = absurd (omega (arith, ap code_of x.values))
  accepted_how (of_order c (turned_down h)) x = absurd (omega (arith, ap code_of x.values))
  accepted_how (of_order c (rests n o)) x =
      let number_is = sym (ap number_of x.values) in
      simply o (record {
        new = c;
        not_turned_down = n;
        number_is = number_is;
        filled_is = sym (ap filled_of x.values);
        disposition_is = sym (ap disposed_of x.values);
        fills_is = refl;
        records_are = refl;
        next_is = refl;
        book_is = rw number_is refl;
      })
  accepted_how (of_order c (trades n o)) x =
      let number_is = sym (ap number_of x.values) in
      let filled_is = sym (ap filled_of x.values) in
      let disposition_is = sym (ap disposed_of x.values) in
      by_trade o (record {
        new = c;
        not_turned_down = n;
        number_is = number_is;
        filled_is = filled_is;
        disposition_is = rw filled_is disposition_is;
        fills_is = refl;
        records_are = refl;
        next_is = refl;
        book_is = rw (number_is, disposition_is, filled_is) refl;
      })

module _ (m : Market) (lent : ℕ) (was : List ℕ) (t number filled disposition : ℕ)
    (is : OrderAccepted (turn_printed m lent was) t number filled disposition) where
  -- an accepted order's turn is its tenant's
  pub accepted_served : ServedAs m lent t
  accepted_served = named m lent was t (lane_told_lem (turn_of m lent was).answer ∙ ap lane_told is.values)

  accepted : AcceptedHow m was t number filled disposition (turn_of m lent was)
  accepted = accepted_how m was t number filled disposition (served_outcome m lent was t accepted_served) is

  pub accepted_traded : m.session.opened ≡ true → TradedAs m was t (turn_of m lent was) number filled disposition
  accepted_traded opened = elim accepted [ simply shut _ ↦ absurd (holds_not_fails opened shut) | by_trade _ d ↦ d ]

  pub accepted_rested : m.session.opened ≡ false → RestedAs m was t (turn_of m lent was) number filled disposition
  accepted_rested shut = elim accepted [ simply _ d ↦ d | by_trade opened _ ↦ absurd (holds_not_fails opened shut) ]

  -- either way it uses up the next number
  pub accepted_numbered : (number ≡ m.session.next) × ((turn_of m lent was).market.session.next ≡ m.session.next + 1)
  accepted_numbered = elim accepted [ simply _ d ↦ (d.number_is, d.next_is) | by_trade _ d ↦ (d.number_is, d.next_is) ]

  rested_simply : m.session.opened ≡ false → (filled ≡ 0) × (disposition ≡ 1) × (turn_fills m lent was ≡ 0)
  rested_simply shut = let d = accepted_rested shut in (d.filled_is, d.disposition_is, d.fills_is)

  disposed_in_order : m.session.opened ≡ true
      → GivenInOrder (disposition_rules m t ((judged m t).size.0 - filled)) (λ n. disposition ≡ n) (disposition ≡ 1)
  unfolding disposition_of
  disposed_in_order opened =
      let left = (judged m t).size.0 - filled in
      let cases = dispositions (judged m t) (quotes_in m) m.session.terms (contracts left) in
      number_in_order 1 cases (disposition_rules m t left) refl (dispositions_read m t left) (accepted_traded opened).disposition_is

pub turned_down_in_order : TurnedDownInOrder
turned_down_in_order = record {
  taken = λ m lent was. turn_is_taken m lent was (outcome m lent was);
  first_lane = serves_first;
  moves = λ m lent t was k. (served_leaves m lent was t (served_as m lent t k)).lanes;
  order = λ m lent t was k new. down_in_order m was t (new_comes m lent was t k new);
  row_room = row_room_is;
  cancel_given_out = λ m lent t was k c. Iff.trans (cancel_down m was t (cancel_comes m lent was t k c) 18 (omega arith)) (says m was t).given_out;
  cancel_never_given = λ m lent t was k c. Iff.trans (cancel_down m was t (cancel_comes m lent was t k c) 22 (omega arith)) (says m was t).never_given;
  cancel_accepted = λ m lent t was k c. Iff.trans (cancel_accepts m was t (cancel_comes m lent was t k c)) (says m was t).rests;
  disposed = λ m lent was t number filled disposition opened is. disposed_in_order m lent was t number filled disposition is opened;
  simply_rests = λ m lent was t number filled disposition shut is. rested_simply m lent was t number filled disposition is shut;
}
