-- `entry::ranges::series_in_range` meets its contract: the tests are those of the rule.
use Rattle.std.proofs.Common.{rules}
use Rattle.units.specs.Tests.{◌and◌}
use Rattle.entry.specs.Settings.{series_in_range}
use Rattle.entry.proofs.ranges.series_in_range.Goals as goal

pub returns-then-one_or_two-2 : goal.returns-then-one_or_two-2
unfolding series_in_range ◌and◌
returns-then-one_or_two-2 c = search rules

pub returns-else-one_or_two-2 : goal.returns-else-one_or_two-2
unfolding series_in_range ◌and◌
returns-else-one_or_two-2 c = search rules
