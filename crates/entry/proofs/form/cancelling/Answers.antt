-- `entry::form::cancelling` meets its contract: the tests are those of the rule.
use Rattle.std.proofs.Common.{rules}
use Rattle.units.specs.Tests.{◌and◌}
use Rattle.entry.specs.Entry.{cancelling}
use Rattle.entry.proofs.form.cancelling.Goals as goal

pub returns-then-numbered : goal.returns-then-numbered
unfolding cancelling ◌and◌
returns-then-numbered c = search rules

pub returns-else-numbered : goal.returns-else-numbered
unfolding cancelling ◌and◌
returns-else-numbered c = search rules
