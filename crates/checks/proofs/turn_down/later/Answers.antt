-- `checks::turn_down::later` meets its contract: a test that fails leaves the cases after it, and the first that holds
-- gives its number.
use Rattle.std.proofs.Common.{arith}
use Rattle.std.proofs.lemmas.Grind.{common_steps}
use Rattle.units.specs.Tests.{pick}
use Rattle.checks.proofs.turn_down.later.Goals as goal

pub returns-then-too_wide : goal.returns-then-too_wide
unfolding pick
returns-then-too_wide c = grind (arith, common_steps)

pub returns-then-far_price : goal.returns-then-far_price
unfolding pick
returns-then-far_price c = grind (arith, common_steps)

pub returns-then-no_room : goal.returns-then-no_room
unfolding pick
returns-then-no_room c = grind (arith, common_steps)

pub returns-then-used_up : goal.returns-then-used_up
unfolding pick
returns-then-used_up c = grind (arith, common_steps)

pub returns : goal.returns
unfolding pick
returns c = grind (arith, common_steps)
