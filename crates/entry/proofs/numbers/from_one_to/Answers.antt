-- `entry::numbers::from_one_to` meets its contract: the tests are those of the rule.
use Rattle.std.proofs.Common.{rules}
use Rattle.units.specs.Tests.{◌and◌}
use Rattle.entry.specs.Numbers.{from1to}
use Rattle.entry.proofs.numbers.from_one_to.Goals as goal

pub returns-then-n-ge1 : goal.returns-then-n-ge1
unfolding from1to ◌and◌
returns-then-n-ge1 c = search rules

pub returns-else-n-ge1 : goal.returns-else-n-ge1
unfolding from1to ◌and◌
returns-else-n-ge1 c = search rules
