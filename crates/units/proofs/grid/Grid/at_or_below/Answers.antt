-- `units::grid::Grid::at_or_below` meets its contract: the highest at or below where the loop stands is the highest at
-- or below the price.
use Rattle.std.proofs.Common.{sym, ap, ◌∙◌, arith}
use Rattle.units.specs.Units.{cents}
use Rattle.units.specs.GridLaws.{highest_here, highest_past, highest_none}
use Rattle.units.proofs.grid.Grid.at_or_below.Goals as goal

pub returns-then-on : goal.returns-then-on
returns-then-on c = ap cents (sym (c.loop-p.invariant ∙ highest_here _ _ (omega (arith, c.loop-p-test.true)) (sym c.on.ensures ∙ c.if-on.true)))

pub loop-p-preserved : goal.loop-p-preserved
loop-p-preserved c = c.loop-p.invariant ∙ highest_past _ _ (omega (arith, c.loop-p-test.true)) (sym c.on.ensures ∙ c.if-on.false)

pub returns : goal.returns
returns c = ap cents (sym (c.loop-p.invariant ∙ highest_none _ _ (omega (arith, c.loop-p-test.false))))
