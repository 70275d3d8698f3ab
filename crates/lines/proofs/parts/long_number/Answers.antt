-- `lines::parts::long_number` meets its contract: a number of 64 bits has at most 20 digits.
use Rattle.std.proofs.Common.{arith}
use Rattle.lines.specs.Numbered.{number_fits, number_laid, digits_most_64}
use Rattle.lines.proofs.parts.long_number.Goals as goal

pub digits-requires : goal.digits-requires
digits-requires c = number_fits _ _ _ 20 (digits_most_64 c.args.n (omega arith)) c.requires

pub returns : goal.returns
returns c = number_laid _ _ _ 20 _ _ (digits_most_64 c.args.n (omega arith)) c.requires.long c.digits.ensures
