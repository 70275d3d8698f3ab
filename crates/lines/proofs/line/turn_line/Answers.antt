-- `lines::line::turn_line` meets its contract: each part is laid out after those before it.
use Rattle.lines.specs.Laying.{laid_then}
use Rattle.lines.proofs.line.turn_line.Goals as goal

pub returns : goal.returns
returns c = laid_then _ _ (laid_then _ _ (laid_then _ _ (laid_then _ _ (laid_then _ _ (laid_then _ _ c.word-a.ensures c.number-b.ensures) c.number-c.ensures) c.number-d.ensures) c.number-e.ensures) c.number-f.ensures) c.newline.ensures
