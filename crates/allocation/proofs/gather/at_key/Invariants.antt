-- What the loop of `allocation::gather::at_key` keeps.
use Rattle.allocation.specs.Gathering.{Gathered}
use Rattle.levels.specs.Levels.{keys_on, opens_on}
use Rattle.units.specs.Picked.{same}
use Rattle.units.specs.Places.{at}
use Rattle.allocation.proofs.gather.at_key.Given as goal

abbrev pub invariant-loop-i : goal.invariant-loop-i
invariant-loop-i l = Gathered (at l.numbers) (same (keys_on l.side (at l.prices)) l.c (opens_on l.side l.bound.0 (at l.sides) (at l.prices) (at l.sizes))) l.i l.orders l.held l.count
