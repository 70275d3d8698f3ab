-- `lines::parts::number` meets its contract: a number of 32 bits has at most 10 digits.
use Rattle.std.proofs.Common.{arith}
use Rattle.lines.specs.Laying.{laid_within}
use Rattle.lines.specs.Numbered.{number_fits, number_laid, low_laid, digits_most_32}
use Rattle.lines.proofs.parts.number.Goals as goal

pub returns-then-n-lt10 : goal.returns-then-n-lt10
returns-then-n-lt10 c = laid_within _ _ {m = 2} (omega arith) (low_laid _ _ _ c.if-n-lt10.true c.requires.long)

pub digits-requires : goal.digits-requires
digits-requires c = rw c.from.ensures (number_fits _ _ _ 10 (digits_most_32 c.args.n (omega arith)) c.requires)

pub returns : goal.returns
returns c = number_laid _ _ _ 10 _ _ (digits_most_32 c.args.n (omega arith)) c.requires.long (rw c.from.ensures at c.digits.ensures)
