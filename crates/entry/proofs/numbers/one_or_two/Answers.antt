-- `entry::numbers::one_or_two` meets its contract: the tests are those of the rule.
use Rattle.std.proofs.Common.{rules}
use Rattle.units.specs.Tests.{◌or◌}
use Rattle.entry.specs.Numbers.{one_or_two}
use Rattle.entry.proofs.numbers.one_or_two.Goals as goal

pub returns-then-n-eq1 : goal.returns-then-n-eq1
unfolding one_or_two ◌or◌
returns-then-n-eq1 c = search rules

pub returns-else-n-eq1 : goal.returns-else-n-eq1
unfolding one_or_two ◌or◌
returns-else-n-eq1 c = search rules
