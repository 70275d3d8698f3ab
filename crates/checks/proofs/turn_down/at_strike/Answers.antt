-- `checks::turn_down::at_strike` meets its contract, test by test.
use Rattle.std.proofs.Common.{arith}
use Rattle.std.proofs.lemmas.Grind.{common_steps}
use Rattle.units.specs.Tests.{◌and◌}
use Rattle.checks.specs.TurnDown.{at_strike}
use Rattle.checks.proofs.turn_down.at_strike.Goals as goal

pub returns-then-t : goal.returns-then-t
unfolding at_strike ◌and◌
returns-then-t c = grind (arith, common_steps)

pub returns-else-t : goal.returns-else-t
unfolding at_strike ◌and◌
returns-else-t c = grind (arith, common_steps)
