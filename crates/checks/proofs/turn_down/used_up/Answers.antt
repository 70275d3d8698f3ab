-- `checks::turn_down::used_up` meets its contract, test by test.
use Rattle.std.proofs.Common.{arith}
use Rattle.std.proofs.lemmas.Grind.{common_steps}
use Rattle.checks.specs.TurnDown.{used_up}
use Rattle.checks.proofs.turn_down.used_up.Goals as goal

pub returns : goal.returns
unfolding used_up
returns c = grind (arith, common_steps)
