-- `price::midpoint` meets its contract, by which quotes are present: with both, it is what the grid's search promises.
use Rattle.std.proofs.Common.{arith}
use Rattle.std.proofs.lemmas.Grind.{common_steps}
use Rattle.price.specs.Price.{midpoint}
use Rattle.price.proofs.midpoint.Goals as goal

pub returns-then-offer-gt0 : goal.returns-then-offer-gt0
unfolding midpoint
returns-then-offer-gt0 c = grind (arith, common_steps)

pub returns-else-bid-gt0 : goal.returns-else-bid-gt0
unfolding midpoint
returns-else-bid-gt0 c = grind (arith, common_steps)
