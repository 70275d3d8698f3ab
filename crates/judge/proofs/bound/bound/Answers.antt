-- `judge::bound::bound` meets its contract, test by test.
use Rattle.std.proofs.Common.{arith}
use Rattle.std.proofs.lemmas.Grind.{common_steps}
use Rattle.units.specs.Tests.{pick}
use Rattle.judge.specs.Bound.{bound_of}
use Rattle.judge.proofs.bound.bound.Goals as goal

pub returns-then-e-eq-BUY : goal.returns-then-e-eq-BUY
unfolding bound_of pick
returns-then-e-eq-BUY c = grind (arith, common_steps)

pub returns-else-e-eq-BUY : goal.returns-else-e-eq-BUY
unfolding bound_of pick
returns-else-e-eq-BUY c = grind (arith, common_steps)
