-- What the loop of `allocation::reach::edge_among` keeps.
use Prim.Native.Nat.{◌-◌}
use Rattle.allocation.specs.EdgeLaws.{Reaching}
use Rattle.units.specs.Places.{at}
use Rattle.allocation.proofs.reach.edge_among.Given as goal

abbrev pub invariant-loop-floor : goal.invariant-loop-floor
invariant-loop-floor l = Reaching l.count (at l.keys) (at l.held) l.initial.left l.left l.floor

abbrev pub decreases-loop-floor : goal.decreases-loop-floor
decreases-loop-floor l = l.top - l.floor
