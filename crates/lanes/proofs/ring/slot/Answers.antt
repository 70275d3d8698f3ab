-- `lanes::ring::slot` meets its contract: the ring's place and the distance may go round before they are added.
use native.Mathlib.Omega.{arith}
use Rattle.lanes.specs.Ring.{slot}
use Rattle.lanes.proofs.ring.slot.Goals as goal

pub returns : goal.returns
unfolding slot
returns c = omega arith
