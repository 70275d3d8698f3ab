-- `sheet::line::is_size` meets its contract: its rule, word for word.
use Rattle.sheet.specs.Line.{is_size}
use Rattle.sheet.proofs.line.is_size.Goals as goal

pub returns : goal.returns
unfolding is_size
returns c = c.is_number.ensures
