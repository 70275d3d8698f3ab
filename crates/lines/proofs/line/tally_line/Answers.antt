-- `lines::line::tally_line` meets its contract: each part is laid out after those before it.
use Rattle.lines.specs.Laying.{laid_then}
use Rattle.lines.proofs.line.tally_line.Goals as goal

pub returns : goal.returns
returns c = laid_then _ _ (laid_then _ _ (laid_then _ _ (laid_then _ _ (laid_then _ _ c.word-a.ensures c.number-b.ensures) c.long_number-c.ensures) c.long_number-d.ensures) c.long_number-e.ensures) c.newline.ensures
