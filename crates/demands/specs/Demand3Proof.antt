-- Demand 3: each call moves the rotation as a run of turns has it or leaves it, so that the rotation's fairness is that
-- of the calls.
use Rattle.std.specs.Prelude.{◌≡◌, Bool, true, false, List, [], ◌∷◌, ℕ, ◌+◌, length, None, Option, Some}
use Rattle.std.proofs.Math.Path.{refl}
use Rattle.std.proofs.Common.{true≢false, arith}
use Rattle.entry.specs.declared.Settings.{Settings}
use Rattle.lanes.specs.declared.Lanes.{Lanes}
use Rattle.lanes.specs.Ring.{joined, taken}
use Rattle.lanes.specs.Rotation.{on, waits, served}
use Rattle.lanes.specs.Runs.{counts_for, turns, Always}
use Rattle.lanes.specs.Fairness.{fair, share}
use Rattle.session.specs.Market.{Market, Called}
use Rattle.session.specs.Turn.{TurnDone, nobody}
use Rattle.session.specs.Open.{OpenDone, open_quiet, open_at}
use Rattle.demands.specs.Runs.{Call, settings, away, submit, turn, opening, coded, turned, step, answers, lane_in, resets}
use Rattle.demands.specs.Outcomes as outcomes
use Rattle.demands.specs.Outcomes.{SetCame, CallCame, set_came, away_came, submit_came}
use Rattle.demands.specs.TurnCases as TurnCases
use Rattle.demands.specs.TurnCases.{leaves}
use Rattle.demands.specs.OpenCases as OpenCases
use Rattle.demands.specs.Shape.{reached_shaped}
use Rattle.demands.specs.Demand3.{takes, turns_taken, turns_of, NoReset, WaitsBeforeEach, Demand3}

-- lanes before and after a call: a taken turn is that of the lane served and moves the place past it, anything else
-- leaves the place
abbrev Moves : Lanes → Lanes → (Option ℕ) → Type 0
Moves l next (Some t) = (served l ≡ Some t) × (next.place ≡ on t 1)
Moves l next None = next.place ≡ l.place

set_moves : (m : Market) (given : Settings) {d : Called} → resets (settings given) (coded d.code) ≡ false → SetCame m given d
    → d.market.session.lanes.place ≡ m.session.lanes.place
set_moves m given r (outcomes.refused none) = refl
set_moves m given r (outcomes.accepted g e h) = absurd (true≢false r)

call_moves : (m next : Market) (n : ℕ) {d : Called} → next.session.lanes.place ≡ m.session.lanes.place → CallCame m next n d
    → d.market.session.lanes.place ≡ m.session.lanes.place
call_moves m next n s (outcomes.refused h) = refl
call_moves m next n s (outcomes.accepted e) = s

turn_moves : (m : Market) (lent : ℕ) (was : List ℕ) {d : TurnDone} → TurnCases.Outcome m lent was d
    → Moves m.session.lanes d.market.session.lanes (lane_in (turned d.answer))
unfolding taken
turn_moves m lent was (TurnCases.refused h) = refl
turn_moves m lent was (TurnCases.taken t s o) = let left = leaves m was t o in rw (left.names, left.lanes) (s.lane, refl)

open_moves : (m : Market) (lent : ℕ) (was : List ℕ) {d : OpenDone} → OpenCases.Outcome m lent was d → d.market.session.lanes.place ≡ m.session.lanes.place
unfolding open_at open_quiet
open_moves m lent was (OpenCases.refused h) = refl
open_moves m lent was (OpenCases.quiet e c) = refl
open_moves m lent was (OpenCases.opens p e c f) = refl

step_moves : (m : Market) (c : Call) → resets c (step m c).answer ≡ false
    → Moves m.session.lanes (step m c).market.session.lanes (lane_in (step m c).answer)
unfolding joined
step_moves m (settings given) r = set_moves m given r (set_came m given)
step_moves m (away bid offer) r = call_moves m _ _ refl (away_came m bid offer)
step_moves m (submit tenant count ns) r = call_moves m _ _ refl (submit_came m tenant count ns)
step_moves m (turn lent was) r = turn_moves m lent was (TurnCases.outcome m lent was)
step_moves m (opening lent was) r = open_moves m lent was (OpenCases.outcome m lent was)

-- who waits before each taken turn
abbrev with_turn : (Option ℕ) → (ℕ → Bool) → List (ℕ → Bool) → List (ℕ → Bool)
with_turn (Some t) busy run = busy ∷ run
with_turn None busy run = run

abbrev waits_at : Market → List Call → List (ℕ → Bool)
waits_at m [] = []
waits_at m (c ∷ cs) = with_turn (lane_in (step m c).answer) (waits m.session.lanes) (waits_at (step m c).market cs)

-- one call's part of a tenant's turns
turns_step :
    (u : ℕ) (l next : Lanes) (s : (Option ℕ)) (run : List (ℕ → Bool)) (rest : ℕ) → Moves l next s → turns u next.place run ≡ rest →
    turns u l.place (with_turn s (waits l) run) ≡ counts_for u s + rest
unfolding turns served
turns_step u l next (Some t) run rest (is, at) e = rw (is, ← at, e)
turns_step u l next None run rest at e = rw (← at, e) (omega arith)

turns_told : (u : ℕ) (m : Market) (cs : List Call) → NoReset m cs → turns u m.session.lanes.place (waits_at m cs) ≡ turns_of u (answers m cs)
turns_told u m [] none = unfold turns in refl
turns_told u m (c ∷ cs) (r, none) =
    turns_step u m.session.lanes (step m c).market.session.lanes (lane_in (step m c).answer) (waits_at (step m c).market cs) _ (step_moves m c r)
    (turns_told u (step m c).market cs none)

taken_step : (s : (Option ℕ)) (busy : ℕ → Bool) (run : List (ℕ → Bool)) (rest : ℕ) → length run ≡ rest → length (with_turn s busy run) ≡ takes s + rest
taken_step (Some t) busy run rest e = omega arith
taken_step None busy run rest e = omega arith

taken_told : (m : Market) (cs : List Call) → length (waits_at m cs) ≡ turns_taken (answers m cs)
taken_told m [] = refl
taken_told m (c ∷ cs) = taken_step (lane_in (step m c).answer) _ (waits_at (step m c).market cs) _ (taken_told (step m c).market cs)

always_step : (t : ℕ) (s : (Option ℕ)) (busy : ℕ → Bool) (run : List (ℕ → Bool)) → (nobody s ≡ false → busy t ≡ true) → Always t run
    → Always t (with_turn s busy run)
always_step t (Some u) busy run h rest = (h refl, rest)
always_step t None busy run h rest = rest

always : (t : ℕ) (m : Market) (cs : List Call) → WaitsBeforeEach t m cs → Always t (waits_at m cs)
always t m [] w = w
always t m (c ∷ cs) (w, rest) = always_step t (lane_in (step m c).answer) _ (waits_at (step m c).market cs) w (always t (step m c).market cs rest)

pub demand_3 : Demand3
demand_3 m r cs none t ht w =
    let p = (reached_shaped m r).place in
    let a = always t m cs w in
    let mine = turns_told t m cs none in
    record {
      ninth = rw (taken_told m cs, mine) at (share t m.session.lanes.place (waits_at m cs) ht p a);
      no_other = λ u hu. rw (turns_told u m cs none, mine) at (fair t u m.session.lanes.place (waits_at m cs) ht hu p a);
    }
