-- `entry::form::priced` meets its contract: the tests are those of the rule.
use Rattle.std.proofs.Common.{rules}
use Rattle.units.specs.Tests.{◌and◌, ◌or◌}
use Rattle.entry.specs.Entry.{priced}
use Rattle.entry.proofs.form.priced.Goals as goal

pub returns-in-1 : goal.returns-in-1
unfolding priced ◌and◌ ◌or◌
returns-in-1 c = search rules

pub returns-in-2 : goal.returns-in-2
unfolding priced ◌and◌ ◌or◌
returns-in-2 c = search rules

pub returns-in_default : goal.returns-in_default
unfolding priced ◌and◌ ◌or◌
returns-in_default c = search rules
