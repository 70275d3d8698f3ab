-- `lines::line::named` meets its contract: each part is laid out after those before it.
use Rattle.std.proofs.Common.{◌+◌, arith, length}
use Rattle.lines.specs.Laying.{laid_then, laid_within}
use Rattle.lines.proofs.line.named.Goals as goal

pub returns : goal.returns
returns c = laid_within _ _ {m = length c.args.w.now + 11 + 1} (omega arith) (laid_then _ _ (laid_then _ _ c.word-a.ensures c.number-b.ensures) c.newline.ensures)
