-- What the loop of `lanes::rotation::served` keeps.
use Rattle.units.specs.Units.{tenants}
use Rattle.units.specs.Loops.{Sought}
use Rattle.lanes.specs.Rotation.{on, waits}
use Rattle.lanes.proofs.rotation.served.Given as goal

abbrev pub invariant-loop-d : goal.invariant-loop-d
invariant-loop-d l = Sought tenants (λ i. waits l.l (on l.l.place i)) l.d
