-- `entry::form::new_order` meets its contract: the tests are those of the rule.
use Rattle.std.proofs.Common.{rules}
use Rattle.units.specs.Tests.{◌and◌}
use Rattle.entry.specs.Entry.{new_order}
use Rattle.entry.proofs.form.new_order.Goals as goal

pub returns-then-from_one_to : goal.returns-then-from_one_to
unfolding new_order ◌and◌
returns-then-from_one_to c = search rules

pub returns-else-from_one_to : goal.returns-else-from_one_to
unfolding new_order ◌and◌
returns-else-from_one_to c = search rules
