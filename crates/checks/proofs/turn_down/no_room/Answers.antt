-- `checks::turn_down::no_room` meets its contract, test by test.
use Rattle.std.proofs.Common.{arith}
use Rattle.std.proofs.lemmas.Grind.{common_steps}
use Rattle.units.specs.Tests.{◌and◌}
use Rattle.checks.specs.TurnDown.{no_room}
use Rattle.checks.proofs.turn_down.no_room.Goals as goal

pub returns-then-might_rest : goal.returns-then-might_rest
unfolding no_room ◌and◌
returns-then-might_rest c = grind (arith, common_steps)

pub returns-else-might_rest : goal.returns-else-might_rest
unfolding no_room ◌and◌
returns-else-might_rest c = grind (arith, common_steps)
