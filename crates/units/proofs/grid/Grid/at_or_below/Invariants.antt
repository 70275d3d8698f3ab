-- `units::grid::Grid::at_or_below` meets its contract: the highest at or below where the loop stands is the highest at
-- or below the price.
use Rattle.std.proofs.Common.{◌≡◌}
use Rattle.units.specs.Grid.{highest_on}
use Rattle.units.proofs.grid.Grid.at_or_below.Given as goal

abbrev pub invariant-loop-p : goal.invariant-loop-p
invariant-loop-p l = highest_on l.self l.fn.price.0 ≡ highest_on l.self l.p
