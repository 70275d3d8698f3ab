-- `sheet::line::field_at` meets its contract: its rule, word for word.
use Rattle.sheet.specs.Line.{field_at}
use Rattle.sheet.proofs.line.field_at.Goals as goal

pub returns : goal.returns
unfolding field_at
returns c = cc
