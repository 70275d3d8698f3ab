-- `checks::turn_down::turn_down` meets its contract: a test that fails leaves the cases after it, and the first that
-- holds gives its number.
use Rattle.std.proofs.Common.{arith}
use Rattle.std.proofs.lemmas.Grind.{common_steps}
use Rattle.units.specs.Tests.{pick}
use Rattle.checks.specs.TurnDown.{turn_down}
use Rattle.checks.proofs.turn_down.turn_down.Goals as goal

pub returns-then-not_yet : goal.returns-then-not_yet
unfolding turn_down pick
returns-then-not_yet c = grind (arith, common_steps)

pub returns-then-off_grid : goal.returns-then-off_grid
unfolding turn_down pick
returns-then-off_grid c = grind (arith, common_steps)

pub returns-then-at_strike : goal.returns-then-at_strike
unfolding turn_down pick
returns-then-at_strike c = grind (arith, common_steps)

pub returns-then-no_offer : goal.returns-then-no_offer
unfolding turn_down pick
returns-then-no_offer c = grind (arith, common_steps)

pub returns-then-no_bid : goal.returns-then-no_bid
unfolding turn_down pick
returns-then-no_bid c = grind (arith, common_steps)

pub returns : goal.returns
unfolding turn_down pick
returns c = grind (arith, common_steps)
