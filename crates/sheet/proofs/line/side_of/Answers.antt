-- `sheet::line::side_of` meets its contract, by its test.
use Rattle.std.proofs.Common.{sym, ◌∙◌}
use Rattle.units.specs.Tests.{pick}
use Rattle.sheet.specs.Line.{side_of}
use Rattle.sheet.proofs.line.side_of.Goals as goal

pub returns-then-is_word : goal.returns-then-is_word
unfolding side_of pick
returns-then-is_word c = simp (sym c.is_word.ensures ∙ c.if-is_word.true)

pub returns-else-is_word : goal.returns-else-is_word
unfolding side_of pick
returns-else-is_word c = simp (sym c.is_word.ensures ∙ c.if-is_word.false)
