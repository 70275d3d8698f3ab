-- `price::usable` meets its contract, by whether there is a price.
use Rattle.std.proofs.Common.{arith}
use Rattle.std.proofs.lemmas.Grind.{common_steps}
use Rattle.price.specs.Price.{usable}
use Rattle.price.proofs.usable.Goals as goal

pub returns-then-price-gt0 : goal.returns-then-price-gt0
unfolding usable
returns-then-price-gt0 c = grind (arith, common_steps)

pub returns-else-price-gt0 : goal.returns-else-price-gt0
unfolding usable
returns-else-price-gt0 c = grind (arith, common_steps)
