-- `lanes::bulk::well_counted` meets its contract: the tests are those of the rule.
use Rattle.std.proofs.Common.{rules}
use Rattle.units.specs.Tests.{◌and◌}
use Rattle.entry.specs.Numbers.{from1to}
use Rattle.lanes.specs.Bulk.{well_counted}
use Rattle.lanes.proofs.bulk.well_counted.Goals as goal

pub returns-then-count-le-BULK : goal.returns-then-count-le-BULK
unfolding well_counted from1to ◌and◌
returns-then-count-le-BULK c = search rules

pub returns-else-count-le-BULK : goal.returns-else-count-le-BULK
unfolding well_counted from1to ◌and◌
returns-else-count-le-BULK c = search rules
