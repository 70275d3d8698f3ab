-- `entry::form::malformed` meets its contract: the tests are those of the rule.
use Rattle.std.proofs.Common.{rules}
use Rattle.units.specs.Tests.{◌or◌, is_not}
use Rattle.entry.specs.Entry.{malformed}
use Rattle.entry.proofs.form.malformed.Goals as goal

pub returns : goal.returns
unfolding malformed ◌or◌ is_not
returns c = search rules
