-- `checks::turn_down::not_yet` meets its contract, test by test.
use Rattle.std.proofs.Common.{arith}
use Rattle.std.proofs.lemmas.Grind.{common_steps}
use Rattle.units.specs.Tests.{◌and◌, ◌or◌, is_not}
use Rattle.checks.specs.TurnDown.{not_yet}
use Rattle.checks.proofs.turn_down.not_yet.Goals as goal

pub returns-then-e-eq-MARKET : goal.returns-then-e-eq-MARKET
unfolding not_yet ◌and◌ ◌or◌ is_not
returns-then-e-eq-MARKET c = grind (arith, common_steps)

pub returns-else-e-eq-MARKET : goal.returns-else-e-eq-MARKET
unfolding not_yet ◌and◌ ◌or◌ is_not
returns-else-e-eq-MARKET c = grind (arith, common_steps)

pub returns-else-not-s : goal.returns-else-not-s
unfolding not_yet ◌and◌ ◌or◌ is_not
returns-else-not-s c = grind (arith, common_steps)
