-- `checks::turn_down::unbid` meets its contract, test by test.
use Rattle.std.proofs.Common.{arith}
use Rattle.std.proofs.lemmas.Grind.{common_steps}
use Rattle.units.specs.Tests.{◌and◌}
use Rattle.checks.specs.TurnDown.{unbid}
use Rattle.checks.proofs.turn_down.unbid.Goals as goal

pub returns-then-e-eq-SELL : goal.returns-then-e-eq-SELL
unfolding unbid ◌and◌
returns-then-e-eq-SELL c = grind (arith, common_steps)

pub returns-else-e-eq-SELL : goal.returns-else-e-eq-SELL
unfolding unbid ◌and◌
returns-else-e-eq-SELL c = grind (arith, common_steps)
