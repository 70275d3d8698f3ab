-- `checks::turn_down::off_grid` meets its contract, test by test.
use Rattle.std.proofs.Common.{arith}
use Rattle.std.proofs.lemmas.Grind.{common_steps}
use Rattle.units.specs.Tests.{◌and◌, is_not}
use Rattle.checks.specs.TurnDown.{off_grid}
use Rattle.checks.proofs.turn_down.off_grid.Goals as goal

pub returns-then-e-eq-LIMIT : goal.returns-then-e-eq-LIMIT
unfolding off_grid ◌and◌ is_not
returns-then-e-eq-LIMIT c = grind (arith, common_steps)

pub returns-else-e-eq-LIMIT : goal.returns-else-e-eq-LIMIT
unfolding off_grid ◌and◌ is_not
returns-else-e-eq-LIMIT c = grind (arith, common_steps)
