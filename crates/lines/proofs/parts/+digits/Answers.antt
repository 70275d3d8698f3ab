-- `lines::parts::digits` meets its contract: the last four digits come after those of a ten thousandth.
use Rattle.std.proofs.Common.{rules}
use Rattle.lines.specs.Numbered.{digits_shorter, digits_after}
use Rattle.lines.proofs.parts.+digits.Goals as goal

pub digits-last-requires : goal.digits-last-requires
digits-last-requires t c = let e = digits_shorter c.args.n c.if-n-lt10000.false in search rules

pub four_digits-requires-clause-room : goal.four_digits-requires-clause-room
four_digits-requires-clause-room t c = let e = digits_shorter c.args.n c.if-n-lt10000.false in search rules

pub returns : goal.returns
returns t c = digits_after _ _ _ _ _ _ _ c.if-n-lt10000.false c.digits-last.ensures c.four_digits.ensures
