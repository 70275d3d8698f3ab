-- `units::grid::Grid::at_or_above` meets its contract: the lowest from where the loop stands is the lowest from the
-- price.
use Rattle.std.proofs.Common.{◌≡◌, ◌+◌, ◌-◌}
use Rattle.units.specs.Grid.{lowest_on}
use Rattle.units.proofs.grid.Grid.at_or_above.Given as goal

abbrev pub invariant-loop-tried : goal.invariant-loop-tried
invariant-loop-tried l = lowest_on l.self (l.fn.most.0 + 1 - l.fn.price.0) l.fn.price.0 ≡ lowest_on l.self (l.fn.most.0 + 1 - l.tried) l.tried
