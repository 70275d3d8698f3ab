-- `checks::turn_down::far_buy` meets its contract, test by test.
use Rattle.std.proofs.Common.{arith}
use Rattle.std.proofs.lemmas.Grind.{common_steps}
use Rattle.units.specs.Tests.{◌and◌}
use Rattle.checks.specs.TurnDown.{far_buy}
use Rattle.checks.proofs.turn_down.far_buy.Goals as goal

pub returns-then-q-gt0 : goal.returns-then-q-gt0
unfolding far_buy ◌and◌
returns-then-q-gt0 c = grind (arith, common_steps)

pub returns-else-q-gt0 : goal.returns-else-q-gt0
unfolding far_buy ◌and◌
returns-else-q-gt0 c = grind (arith, common_steps)
