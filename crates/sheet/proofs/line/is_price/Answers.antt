-- `sheet::line::is_price` meets its contract: a limit has a price, any other kind a dash.
use Rattle.std.proofs.Common.{sym, ◌∙◌}
use Rattle.units.specs.Tests.{pick_yes, pick_no}
use Rattle.sheet.specs.Line.{is_price}
use Rattle.sheet.proofs.line.is_price.Goals as goal

pub returns-then-is_word : goal.returns-then-is_word
unfolding is_price
returns-then-is_word c = c.is_dollars.ensures ∙ sym (pick_yes _ _ (sym c.is_word.ensures ∙ c.if-is_word.true))

pub returns-else-is_word : goal.returns-else-is_word
unfolding is_price
returns-else-is_word c = c.is_word-else-is_word.ensures ∙ sym (pick_no _ _ (sym c.is_word.ensures ∙ c.if-is_word.false))
