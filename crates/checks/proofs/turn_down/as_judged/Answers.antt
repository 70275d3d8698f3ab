-- `checks::turn_down::as_judged` meets its contract, test by test.
use Rattle.std.proofs.Common.{arith}
use Rattle.std.proofs.lemmas.Grind.{common_steps}
use Rattle.units.specs.Tests.{pick}
use Rattle.checks.specs.TurnDown.{as_judged}
use Rattle.checks.proofs.turn_down.as_judged.Goals as goal

pub returns-then-converts : goal.returns-then-converts
unfolding as_judged pick
returns-then-converts c = grind (arith, common_steps)

pub returns-else-converts : goal.returns-else-converts
unfolding as_judged pick
returns-else-converts c = grind (arith, common_steps)
