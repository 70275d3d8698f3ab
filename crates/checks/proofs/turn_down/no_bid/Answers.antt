-- `checks::turn_down::no_bid` meets its contract, test by test.
use Rattle.std.proofs.Common.{arith}
use Rattle.std.proofs.lemmas.Grind.{common_steps}
use Rattle.units.specs.Tests.{◌and◌}
use Rattle.checks.specs.TurnDown.{no_bid}
use Rattle.checks.proofs.turn_down.no_bid.Goals as goal

pub returns-then-unbid : goal.returns-then-unbid
unfolding no_bid ◌and◌
returns-then-unbid c = grind (arith, common_steps)

pub returns-else-unbid : goal.returns-else-unbid
unfolding no_bid ◌and◌
returns-else-unbid c = grind (arith, common_steps)
