-- `checks::turn_down::might_rest` meets its contract, test by test.
use Rattle.std.proofs.Common.{arith}
use Rattle.std.proofs.lemmas.Grind.{common_steps}
use Rattle.units.specs.Tests.{◌and◌}
use Rattle.checks.specs.TurnDown.{might_rest}
use Rattle.checks.proofs.turn_down.might_rest.Goals as goal

pub returns-then-e-eq-LIMIT : goal.returns-then-e-eq-LIMIT
unfolding might_rest ◌and◌
returns-then-e-eq-LIMIT c = grind (arith, common_steps)

pub returns-else-e-eq-LIMIT : goal.returns-else-e-eq-LIMIT
unfolding might_rest ◌and◌
returns-else-e-eq-LIMIT c = grind (arith, common_steps)
