-- The marked example of the rotation, computed.
use Rattle.std.specs.Prelude.{◌≡◌, refl, List, [], ◌∷◌, ℕ, zero, suc, drop, Option, Some, None}
use Rattle.units.specs.Places.{at}
use Rattle.units.specs.Tests.{pick}
use Rattle.units.specs.Firsts.{first_to}
use Rattle.lanes.specs.declared.Lane.{Lane}
use Rattle.lanes.specs.declared.Lanes.{Lanes}
use Rattle.lanes.specs.Ring.{lane_of, taken}
use Rattle.lanes.specs.Rotation.{distance, served_by, served}

-- the lanes once the lane served has given up its head entry
abbrev next : Lanes → Option ℕ → Lanes
next l (Some t) = taken l t
next l None = l

-- the lanes that n turns serve
unfoldable pub turns_go : ℕ → Lanes → List (Option ℕ)
turns_go zero l = []
turns_go (suc n) l = served l ∷ turns_go n (next l (served l))

-- lanes that hold so many entries, with heads at such places
abbrev pub lanes_of : List ℕ → List ℕ → List Lane
lanes_of heads [] = []
lanes_of heads (n ∷ ns) = lane_of (at heads 0) n ∷ lanes_of (drop 1 heads) ns

-- E10 rotation at 0, lanes 0, 3, 5 hold 20, 1, 1: turns go 0, 3, 5, 0, 0. The heads may stand anywhere.
abbrev pub E10 : Type 0
E10 =
    (heads : List ℕ) →
    turns_go 5 (record { lanes = lanes_of heads (20 ∷ 0 ∷ 0 ∷ 1 ∷ 0 ∷ 1 ∷ 0 ∷ 0 ∷ 0 ∷ []); place = 0 }) ≡
    Some 0 ∷ Some 3 ∷ Some 5 ∷ Some 0 ∷ Some 0 ∷ []

pub e10 : E10
unfolding turns_go served served_by distance first_to pick taken
e10 heads = refl
