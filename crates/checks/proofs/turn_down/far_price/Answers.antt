-- `checks::turn_down::far_price` meets its contract, test by test.
use Rattle.std.proofs.Common.{arith}
use Rattle.std.proofs.lemmas.Grind.{common_steps}
use Rattle.units.specs.Tests.{◌and◌, ◌or◌}
use Rattle.checks.specs.TurnDown.{far_price}
use Rattle.checks.proofs.turn_down.far_price.Goals as goal

pub returns-then-far_buy : goal.returns-then-far_buy
unfolding far_price ◌and◌ ◌or◌
returns-then-far_buy c = grind (arith, common_steps)

pub returns-else-far_buy : goal.returns-else-far_buy
unfolding far_price ◌and◌ ◌or◌
returns-else-far_buy c = grind (arith, common_steps)

pub returns-else-e-eq-LIMIT : goal.returns-else-e-eq-LIMIT
unfolding far_price ◌and◌ ◌or◌
returns-else-e-eq-LIMIT c = grind (arith, common_steps)
