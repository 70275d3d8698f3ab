-- The rotation: the first non-empty lane at or after the place, in order 0 to 8 and round again.
use Rattle.std.specs.Prelude.{Bool, ℕ, ◌+◌, ◌%◌, ltb, Option, Some, None}
use Rattle.units.specs.Units.{tenants}
use Rattle.units.specs.Tests.{pick}
use Rattle.units.specs.Firsts.{first_to}
use Rattle.lanes.specs.declared.Lanes.{Lanes}
use Rattle.lanes.specs.Ring.{len_of}

-- the lane d places on
abbrev pub on : ℕ → ℕ → ℕ
on place d = (place + d) % tenants

-- an entry waits in lane t
abbrev pub waits : Lanes → ℕ → Bool
waits l t = ltb 0 (len_of l t)

-- how many places on the first non-empty lane is; nine where no lane has an entry
unfoldable pub distance : (ℕ → Bool) → ℕ → ℕ
distance busy place = first_to (λ d. busy (on place d)) tenants

-- the lane that a turn serves, by who waits and the place
unfoldable pub served_by : (ℕ → Bool) → ℕ → Option ℕ
served_by busy place = pick (ltb (distance busy place) tenants) (Some (on place (distance busy place))) None

-- the lane that a turn serves
unfoldable pub served : Lanes → Option ℕ
served l = served_by (waits l) l.place
