-- What the loop of `allocation::gather::best_from` keeps.
use Rattle.allocation.specs.BestLaws.{BestSoFar}
use Rattle.units.specs.Places.{at}
use Rattle.allocation.proofs.gather.best_from.Given as goal

abbrev pub invariant-loop-j : goal.invariant-loop-j
invariant-loop-j l = BestSoFar l.count l.top (at l.keys) (at l.held) l.floor l.j l.best.key l.best.total.0
