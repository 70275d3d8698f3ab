-- `lanes::ring::joined` meets its contract, by its one store.
use mathlib.Core.Path.{refl}
use Rattle.lanes.specs.Ring.{joined}
use Rattle.lanes.proofs.ring.joined.Goals as goal

pub returns : goal.returns
unfolding joined
returns c = refl
