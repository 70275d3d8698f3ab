-- `entry::ranges::in_range` meets its contract: the tests are those of the rule.
use Rattle.std.proofs.Common.{rules}
use Rattle.units.specs.Tests.{◌and◌}
use Rattle.entry.specs.Settings.{in_range}
use Rattle.entry.proofs.ranges.in_range.Goals as goal

pub returns-then-protections_in_range : goal.returns-then-protections_in_range
unfolding in_range ◌and◌
returns-then-protections_in_range c = search rules

pub returns-else-protections_in_range : goal.returns-else-protections_in_range
unfolding in_range ◌and◌
returns-else-protections_in_range c = search rules
