-- `checks::turn_down::above_percent` meets its contract, test by test.
use Rattle.std.proofs.Common.{arith}
use Rattle.std.proofs.lemmas.Grind.{common_steps}
use Rattle.checks.specs.TurnDown.{above_percent}
use Rattle.checks.proofs.turn_down.above_percent.Goals as goal

pub returns-then-percent-lt-WIDEST_PERCENT : goal.returns-then-percent-lt-WIDEST_PERCENT
unfolding above_percent
returns-then-percent-lt-WIDEST_PERCENT c = grind (arith, common_steps)

pub returns-else-percent-lt-WIDEST_PERCENT : goal.returns-else-percent-lt-WIDEST_PERCENT
unfolding above_percent
returns-else-percent-lt-WIDEST_PERCENT c = grind (arith, common_steps)
