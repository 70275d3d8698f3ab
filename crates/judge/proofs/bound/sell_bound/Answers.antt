-- `judge::bound::sell_bound` meets its contract, test by test.
use Rattle.std.proofs.Common.{arith}
use Rattle.std.proofs.lemmas.Grind.{common_steps}
use Rattle.judge.specs.Bound.{sell_bound}
use Rattle.judge.proofs.bound.sell_bound.Goals as goal

pub returns : goal.returns
unfolding sell_bound
returns c = grind (arith, common_steps)
