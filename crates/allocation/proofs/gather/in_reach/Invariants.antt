-- What the loop of `allocation::gather::in_reach` keeps.
use Rattle.allocation.specs.Gathering.{Gathered}
use Rattle.levels.specs.Levels.{keys_on, opens_on}
use Rattle.units.specs.Places.{at}
use Rattle.allocation.proofs.gather.in_reach.Given as goal

abbrev pub invariant-loop-i : goal.invariant-loop-i
invariant-loop-i l = Gathered (keys_on l.side (at l.prices)) (opens_on l.side l.bound.0 (at l.sides) (at l.prices) (at l.sizes)) l.i l.keys l.held l.count
