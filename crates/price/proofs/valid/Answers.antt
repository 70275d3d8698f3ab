-- `price::valid` meets its contract, by which quotes are present.
use Rattle.std.proofs.Common.{arith}
use Rattle.std.proofs.lemmas.Grind.{common_steps}
use Rattle.price.specs.Price.{valid}
use Rattle.price.proofs.valid.Goals as goal

pub returns-in-true-true : goal.returns-in-true-true
unfolding valid
returns-in-true-true c = grind (arith, common_steps)

pub returns-in-true-false : goal.returns-in-true-false
unfolding valid
returns-in-true-false c = grind (arith, common_steps)

pub returns-in-false-true : goal.returns-in-false-true
unfolding valid
returns-in-false-true c = grind (arith, common_steps)

pub returns-in-false-false : goal.returns-in-false-false
unfolding valid
returns-in-false-false c = grind (arith, common_steps)
