-- `judge::bound::lower` meets its contract, test by test.
use Rattle.std.proofs.Common.{arith}
use Rattle.std.proofs.lemmas.Grind.{common_steps}
use Rattle.units.specs.Tests.{pick}
use Rattle.units.specs.Cases.{lower_if}
use Rattle.judge.proofs.bound.lower.Goals as goal

pub returns-then-test : goal.returns-then-test
unfolding lower_if pick
returns-then-test c = grind (arith, common_steps)

pub returns-else-test : goal.returns-else-test
unfolding lower_if pick
returns-else-test c = grind (arith, common_steps)
