-- `judge::bound::buy_bound` meets its contract, test by test.
use Rattle.std.proofs.Common.{arith}
use Rattle.std.proofs.lemmas.Grind.{common_steps}
use Rattle.units.specs.Tests.{◌and◌}
use Rattle.judge.specs.Bound.{buy_bound}
use Rattle.judge.proofs.bound.buy_bound.Goals as goal

pub returns : goal.returns
unfolding buy_bound ◌and◌
returns c = grind (arith, common_steps)
