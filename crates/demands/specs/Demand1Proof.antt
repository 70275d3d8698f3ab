-- Demand 1, by how each call can come out.
use Rattle.std.specs.Prelude.{◌≡◌, refl, true, List, ℕ, Some}
use Rattle.std.proofs.Common.{sym, ap, subst, arith, ltb-true}
use Rattle.std.proofs.lemmas.Bool.{false≢true}
use Rattle.units.specs.Tests.{holds_not_fails}
use Rattle.entry.specs.declared.Settings.{Settings}
use Rattle.lanes.specs.Ring.{taken}
use Rattle.lanes.specs.Rotation.{served}
use Rattle.lanes.specs.Waiting.{take_own, take_other}
use Rattle.session.specs.TurnAnswer as answer
use Rattle.session.specs.Market.{Market, Called}
use Rattle.session.specs.Turn.{TurnDone}
use Rattle.session.specs.Open.{OpenDone, open_quiet, open_at}
use Rattle.demands.specs.Runs.{Call, Answer, settings, away, submit, turn, opening, coded, turned, opened, lent_to, step, lane_in, is_refused, Reached}
use Rattle.demands.specs.Outcomes as outcomes
use Rattle.demands.specs.Outcomes.{SetCame, CallCame, set_came, away_came, submit_came}
use Rattle.demands.specs.TurnCases as TurnCases
use Rattle.demands.specs.TurnCases.{once_taken, kind_of, leaves, first_busy, served_leaves, named}
use Rattle.demands.specs.OpenCases as OpenCases
use Rattle.demands.specs.Shape.{Shaped, reached_shaped}
use Rattle.demands.specs.Demand1.{NothingChanged, OnlyTurnTaken, Demand1}

-- a call that is refused leaves the market and the records as they were
set_refused : (m : Market) (given : Settings) {d : Called} → SetCame m given d → is_refused (coded d.code) ≡ true → d.market ≡ m
set_refused m given (outcomes.refused none) r = refl
set_refused m given (outcomes.accepted g e h) r = absurd (omega (arith, ltb-true 0 0 r))

call_refused : (m next : Market) (n : ℕ) {d : Called} → CallCame m next n d → is_refused (coded d.code) ≡ true → d.market ≡ m
call_refused m next n (outcomes.refused h) r = refl
call_refused m next n (outcomes.accepted e) r = absurd (omega (arith, ltb-true 0 0 r))

turn_refused : (m : Market) (lent : ℕ) (was : List ℕ) {d : TurnDone} → TurnCases.Outcome m lent was d → is_refused (turned d.answer) ≡ true
    → (d.market ≡ m) × (d.records ≡ was)
turn_refused m lent was (TurnCases.refused h) r = (refl, refl)
turn_refused m lent was (TurnCases.taken t s o) r = absurd (holds_not_fails r (leaves m was t o).not_refused)

open_refused : (m : Market) (lent : ℕ) (was : List ℕ) {d : OpenDone} → OpenCases.Outcome m lent was d → is_refused (opened d.answer) ≡ true
    → (d.market ≡ m) × (d.records ≡ was)
unfolding open_at open_quiet
open_refused m lent was (OpenCases.refused h) r = (refl, refl)
open_refused m lent was (OpenCases.quiet e c) r = absurd (false≢true r)
open_refused m lent was (OpenCases.opens p e c f) r = absurd (false≢true r)

nothing_changed : (m : Market) (c : Call) → is_refused (step m c).answer ≡ true → NothingChanged m c
nothing_changed m (settings given) r = record { market = set_refused m given (set_came m given) r; records = refl }
nothing_changed m (away bid offer) r = record { market = call_refused m _ _ (away_came m bid offer) r; records = refl }
nothing_changed m (submit tenant count ns) r = record { market = call_refused m _ _ (submit_came m tenant count ns) r; records = refl }
nothing_changed m (turn lent was) r = let (market, records) = turn_refused m lent was (TurnCases.outcome m lent was) r in record { market = market; records = records }
nothing_changed m (opening lent was) r = let (market, records) = open_refused m lent was (OpenCases.outcome m lent was) r in record { market = market; records = records }

only_taken : (m : Market) → Shaped m → (t : ℕ) → served m.session.lanes ≡ Some t → OnlyTurnTaken m t (once_taken m t)
only_taken m shaped t is =
    let first = first_busy m t shaped.place is in
    record {
      tenant = first.lane;
      own_lane = take_own m.session.lanes m.entries t first.lane shaped.heads_long shaped.lens_long (ltb-true _ _ first.waits);
      other_lanes = take_other m.session.lanes m.entries t;
      place = unfold taken in refl;
      tallies = refl;
      book = refl;
      accepted = refl;
      terms = refl;
      away = refl;
      opened = refl;
      number = refl;
    }

-- the kind of a turn's answer; that of any other is 0
abbrev kind_in : Answer → ℕ
kind_in (coded code) = 0
kind_in (turned a) = kind_of a
kind_in (opened a) = 0

only_turn_taken : (m : Market) → Reached m → (c : Call) (t code : ℕ) → (step m c).answer ≡ turned (answer.TurnedDown t code)
    → OnlyTurnTaken m t (step m c).market × ((step m c).records ≡ lent_to c)
only_turn_taken m r (settings given) t code a = absurd (omega (arith, ap kind_in a))
only_turn_taken m r (away bid offer) t code a = absurd (omega (arith, ap kind_in a))
only_turn_taken m r (submit tenant count ns) t code a = absurd (omega (arith, ap kind_in a))
only_turn_taken m r (turn lent was) t code a =
    let s = named m lent was t (ap lane_in a) in
    let (market, records) = (served_leaves m lent was t s).down (ap kind_in a) in
    (subst (OnlyTurnTaken m t) (sym market) (only_taken m (reached_shaped m r) t s.lane), records)
only_turn_taken m r (opening lent was) t code a = absurd (omega (arith, ap kind_in a))

pub demand_1 : Demand1
demand_1 = record { refused = nothing_changed; turned_down = only_turn_taken }
