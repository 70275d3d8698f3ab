-- `price::choose` meets its contract: what it answers is the first usable of the three, so it is the price that the
-- definition chooses.
use Rattle.std.proofs.Common.{arith}
use Rattle.std.proofs.lemmas.Grind.{common_steps}
use Rattle.price.specs.Price.{first_valid, price_of}
use Rattle.price.proofs.choose.Goals as goal

pub returns-then-usable : goal.returns-then-usable
unfolding price_of first_valid
returns-then-usable c = grind (arith, common_steps)

pub returns-then-usable-2 : goal.returns-then-usable-2
unfolding price_of first_valid
returns-then-usable-2 c = grind (arith, common_steps)

pub returns-then-usable-3 : goal.returns-then-usable-3
unfolding price_of first_valid
returns-then-usable-3 c = grind (arith, common_steps)

pub returns-else-usable-3 : goal.returns-else-usable-3
unfolding price_of first_valid
returns-else-usable-3 c = grind (arith, common_steps)
