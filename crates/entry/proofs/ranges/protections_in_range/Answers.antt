-- `entry::ranges::protections_in_range` meets its contract: the tests are those of the rule.
use Rattle.std.proofs.Common.{rules}
use Rattle.units.specs.Tests.{◌and◌}
use Rattle.entry.specs.Settings.{protections_in_range}
use Rattle.entry.proofs.ranges.protections_in_range.Goals as goal

pub returns-then-buffers : goal.returns-then-buffers
unfolding protections_in_range ◌and◌
returns-then-buffers c = search rules

pub returns-else-buffers : goal.returns-else-buffers
unfolding protections_in_range ◌and◌
returns-else-buffers c = search rules
