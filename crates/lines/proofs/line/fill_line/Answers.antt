-- `lines::line::fill_line` meets its contract: each part is laid out after those before it.
use Rattle.std.proofs.Common.{arith}
use Rattle.lines.specs.Laying.{laid_then, laid_within}
use Rattle.lines.proofs.line.fill_line.Goals as goal

pub returns : goal.returns
returns c = laid_within _ _ {m = 49} (omega arith) (laid_then _ _ (laid_then _ _ (laid_then _ _ (laid_then _ _ (laid_then _ _ c.word-a.ensures c.number-b.ensures) c.number-c.ensures) c.number-d.ensures) c.number-e.ensures) c.newline.ensures)
