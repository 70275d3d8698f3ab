-- Demand 3, fairness. In any run of calls without an accepted settings, of any n successive taken turns a tenant with
-- an entry waiting before each gets at least n/9, whole part, and no other tenant more than one turn above it; submits,
-- aways, openings and refused calls may stand between the turns. A turn whose entry is turned down is a taken turn.
--
-- The market before each call of a run is reached itself (`reached-on`), so that a run from a reached market is any
-- part of any run.
use Rattle.std.specs.Prelude.{◌≡◌, true, false, List, [], ◌∷◌, ℕ, ◌+◌, ◌/◌, ◌≤◌, ◌<◌, None, Option, Some}
use Rattle.units.specs.Units.{tenants}
use Rattle.lanes.specs.Rotation.{waits}
use Rattle.lanes.specs.Runs.{counts_for}
use Rattle.session.specs.Market.{Market}
use Rattle.session.specs.Turn.{nobody}
use Rattle.demands.specs.Runs.{Call, Answer, step, answers, lane_in, resets, Reached}

-- 1 for a taken turn, else 0
abbrev pub takes : (Option ℕ) → ℕ
takes (Some t) = 1
takes None = 0

-- how many turns were taken, by the answers of a run,
abbrev pub turns_taken : List Answer → ℕ
turns_taken [] = 0
turns_taken (a ∷ rest) = takes (lane_in a) + turns_taken rest

-- and how many of them were tenant u's
abbrev pub turns_of : ℕ → List Answer → ℕ
turns_of u [] = 0
turns_of u (a ∷ rest) = counts_for u (lane_in a) + turns_of u rest

-- no settings is accepted in the run
abbrev pub NoReset : Market → List Call → Type 0
NoReset m [] = Unit {0}
NoReset m (c ∷ cs) = (resets c (step m c).answer ≡ false) × NoReset (step m c).market cs

-- tenant t has an entry waiting before each taken turn of the run
abbrev pub WaitsBeforeEach : ℕ → Market → List Call → Type 0
WaitsBeforeEach t m [] = Unit {0}
WaitsBeforeEach t m (c ∷ cs) =
    (nobody (lane_in (step m c).answer) ≡ false → waits m.session.lanes t ≡ true) × WaitsBeforeEach t (step m c).market cs

pub record Fair (t : ℕ) (told : List Answer) : Type 0 where
  pub ninth : turns_taken told / tenants ≤ turns_of t told
  pub no_other : (u : ℕ) → u < tenants → turns_of u told ≤ turns_of t told + 1

abbrev pub Demand3 : Type 0
Demand3 = (m : Market) → Reached m → (cs : List Call) → NoReset m cs → (t : ℕ) → t < tenants → WaitsBeforeEach t m cs → Fair t (answers m cs)
