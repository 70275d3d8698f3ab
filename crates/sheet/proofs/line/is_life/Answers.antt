-- `sheet::line::is_life` meets its contract: either word.
use Rattle.std.proofs.Common.{sym, ◌∙◌}
use Rattle.units.specs.Tests.{◌or◌}
use Rattle.sheet.specs.Line.{is_life}
use Rattle.sheet.proofs.line.is_life.Goals as goal

pub returns-then-is_word : goal.returns-then-is_word
unfolding is_life ◌or◌
returns-then-is_word c = simp (sym c.is_word.ensures ∙ c.if-is_word.true) c.if-is_word.true

pub returns-else-is_word : goal.returns-else-is_word
unfolding is_life ◌or◌
returns-else-is_word c = simp (sym c.is_word.ensures ∙ c.if-is_word.false) c.is_word-else-is_word.ensures
