-- `price::near_either` meets its contract, by the first test.
use Rattle.std.proofs.Common.{arith}
use Rattle.std.proofs.lemmas.Grind.{common_steps}
use Rattle.price.specs.Price.{near_either}
use Rattle.price.proofs.near_either.Goals as goal

pub returns-then-from-amount : goal.returns-then-from-amount
unfolding near_either
returns-then-from-amount c = grind (arith, common_steps)

pub returns-else-from-amount : goal.returns-else-from-amount
unfolding near_either
returns-else-from-amount c = grind (arith, common_steps)
