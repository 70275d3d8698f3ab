-- `lanes::ring::taken` meets its contract, by its three stores.
use mathlib.Core.Path.{refl}
use Rattle.lanes.specs.Ring.{taken}
use Rattle.lanes.proofs.ring.taken.Goals as goal

pub returns : goal.returns
unfolding taken
returns c = refl
