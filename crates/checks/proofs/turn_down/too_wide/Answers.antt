-- `checks::turn_down::too_wide` meets its contract, test by test.
use Rattle.std.proofs.Common.{arith}
use Rattle.std.proofs.lemmas.Grind.{common_steps}
use Rattle.units.specs.Tests.{◌and◌, ◌or◌}
use Rattle.checks.specs.TurnDown.{too_wide}
use Rattle.checks.proofs.turn_down.too_wide.Goals as goal

pub returns-then-t-width-2 : goal.returns-then-t-width-2
unfolding too_wide ◌and◌ ◌or◌
returns-then-t-width-2 c = grind (arith, common_steps)

pub returns-else-t-width-2 : goal.returns-else-t-width-2
unfolding too_wide ◌and◌ ◌or◌
returns-else-t-width-2 c = grind (arith, common_steps)

pub returns-else-t-width : goal.returns-else-t-width
unfolding too_wide ◌and◌ ◌or◌
returns-else-t-width c = grind (arith, common_steps)
