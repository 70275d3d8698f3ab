-- Runs of taken turns, given by who waits before each: between two turns the lanes may change in any way.
use Rattle.std.specs.Prelude.{◌≡◌, Bool, true, List, [], ◌∷◌, ℕ, ◌+◌, ◌-◌, ◌%◌, ◌≤◌, ◌<◌, eqb, Option, Some, None}
use Rattle.units.specs.Units.{tenants}
use Rattle.units.specs.Picked.{keep}
use Rattle.lanes.specs.Rotation.{on, served_by}

-- how many places on a lane is, in order 0 to 8 and round again
unfoldable pub ahead : ℕ → ℕ → ℕ
ahead place lane = (lane + tenants - place) % tenants

-- lane t is the first non-empty lane at or after the place
pub record FirstBusy (busy : ℕ → Bool) (place t : ℕ) : Type 0 where
  pub lane : t < tenants
  pub waits : busy t ≡ true
  pub nearest : (u : ℕ) → u < tenants → busy u ≡ true → ahead place t ≤ ahead place u

-- a taken turn moves the place to the tenant after the one served
abbrev pub moved : ℕ → Option ℕ → ℕ
moved place (Some t) = on t 1
moved place None = place

-- 1 if the turn is lane u's, else 0
abbrev pub counts_for : ℕ → Option ℕ → ℕ
counts_for u (Some t) = keep (eqb t u) 1
counts_for u None = 0

-- how many turns of a run are lane u's
unfoldable pub turns : ℕ → ℕ → List (ℕ → Bool) → ℕ
turns u place [] = 0
turns u place (busy ∷ run) = counts_for u (served_by busy place) + turns u (moved place (served_by busy place)) run

-- lane t has an entry before each turn of the run
abbrev pub Always : ℕ → List (ℕ → Bool) → Type 0
Always t [] = Unit {0}
Always t (busy ∷ run) = (busy t ≡ true) × Always t run
