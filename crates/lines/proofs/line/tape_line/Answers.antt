-- `lines::line::tape_line` meets its contract: each part is laid out after those before it.
use Rattle.std.proofs.Common.{arith}
use Rattle.lines.specs.Laying.{laid_then, laid_within}
use Rattle.lines.proofs.line.tape_line.Goals as goal

pub returns : goal.returns
returns c = laid_within _ _ {m = 37} (omega arith) (laid_then _ _ (laid_then _ _ (laid_then _ _ c.word-a.ensures c.number-b.ensures) c.long_number-c.ensures) c.newline.ensures)
