-- `entry::ranges::prints_in_range` meets its contract: the tests are those of the rule.
use Rattle.std.proofs.Common.{rules}
use Rattle.units.specs.Tests.{◌and◌}
use Rattle.entry.specs.Settings.{prints_in_range}
use Rattle.entry.proofs.ranges.prints_in_range.Goals as goal

pub returns-then-s-le-HIGHEST : goal.returns-then-s-le-HIGHEST
unfolding prints_in_range ◌and◌
returns-then-s-le-HIGHEST c = search rules

pub returns-else-s-le-HIGHEST : goal.returns-else-s-le-HIGHEST
unfolding prints_in_range ◌and◌
returns-else-s-le-HIGHEST c = search rules
