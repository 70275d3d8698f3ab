-- `in_bulk` meets its contract: both tests are asked.
use Rattle.std.proofs.Common.{le-leb}
use Rattle.std.proofs.lemmas.Bool.{lt-leb}
use Rattle.units.specs.Tests.{◌and◌}
use Rattle.entry.specs.Numbers.{from1to}
use Rattle.tape.proofs.events.in_bulk.Goals as goal

pub returns-then-count-ge1 : goal.returns-then-count-ge1
unfolding from1to ◌and◌
returns-then-count-ge1 c = rw (le-leb 1 c.args.count c.if-count-ge1.true)

pub returns-else-count-ge1 : goal.returns-else-count-ge1
unfolding from1to ◌and◌
returns-else-count-ge1 c = rw (lt-leb 1 c.args.count c.if-count-ge1.false)
