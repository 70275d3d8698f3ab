-- `book::trading::remove` meets its contract: the rows passed have what is left of them.
use Rattle.units.specs.Loops.{replace_ends}
use Rattle.book.proofs.trading.remove.Goals as goal

pub returns : goal.returns
returns c = replace_ends _ _ _ _ _ c.loop-i.invariant c.loop-i-test.false
