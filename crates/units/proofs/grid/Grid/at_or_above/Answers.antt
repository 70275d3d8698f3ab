-- `units::grid::Grid::at_or_above` meets its contract: the lowest from where the loop stands is the lowest from the
-- price.
use Rattle.std.proofs.Common.{sym, ap, ◌∙◌, arith}
use Rattle.units.specs.Units.{cents}
use Rattle.units.specs.GridLaws.{lowest_here, lowest_past, lowest_none}
use Rattle.units.proofs.grid.Grid.at_or_above.Goals as goal

-- the price is on the grid, and the lowest
pub returns-then-on : goal.returns-then-on
returns-then-on c =
    let on = sym c.on.ensures ∙ c.if-on.true in
    ap cents (sym (c.loop-tried.invariant ∙ lowest_here _ _ _ (omega (arith, c.loop-tried-test.true)) on))

-- it is not, and the next is tried
pub loop-tried-preserved : goal.loop-tried-preserved
loop-tried-preserved c =
    let off = sym c.on.ensures ∙ c.if-on.false in
    c.loop-tried.invariant ∙ lowest_past _ _ _ (omega (arith, c.loop-tried-test.true)) off

-- it is not, and it was the last
pub returns-else-on : goal.returns-else-on
returns-else-on c =
    let off = sym c.on.ensures ∙ c.if-on.false in
    ap cents (sym (c.loop-tried.invariant ∙ (lowest_past _ _ _ (omega (arith, c.loop-tried-test.true)) off ∙ lowest_none _ _ _ (omega arith))))

-- the first is beyond the last
pub returns : goal.returns
returns c = ap cents (sym (c.loop-tried.invariant ∙ lowest_none _ _ c.loop-tried.tried (omega (arith, c.loop-tried-test.false))))
