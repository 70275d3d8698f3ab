-- `checks::turn_down::no_offer` meets its contract, test by test.
use Rattle.std.proofs.Common.{arith}
use Rattle.std.proofs.lemmas.Grind.{common_steps}
use Rattle.units.specs.Tests.{◌and◌}
use Rattle.checks.specs.TurnDown.{no_offer}
use Rattle.checks.proofs.turn_down.no_offer.Goals as goal

pub returns-then-e-eq-BUY : goal.returns-then-e-eq-BUY
unfolding no_offer ◌and◌
returns-then-e-eq-BUY c = grind (arith, common_steps)

pub returns-else-e-eq-BUY : goal.returns-else-e-eq-BUY
unfolding no_offer ◌and◌
returns-else-e-eq-BUY c = grind (arith, common_steps)
