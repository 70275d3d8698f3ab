-- `sheet::line::price_of` meets its contract: of a right price the dollars and the cents are few digits.
use Rattle.std.proofs.Common.{sym, ap, ◌∙◌, arith}
use Rattle.units.specs.Tests.{pick_yes, pick_no}
use Rattle.units.specs.Decimal.{value_of}
use Rattle.sheet.specs.Line.{price_of}
use Rattle.sheet.specs.LineLaws.{price_has}
use Rattle.sheet.proofs.line.price_of.Goals as goal

pub value-requires-clause-s_value : goal.value-requires-clause-s_value
value-requires-clause-s_value c =
    rw c.before-then-is_word.ensures (price_has _ _ c.requires (sym c.is_word.ensures ∙ c.if-is_word.true)).dollars.0

pub value-requires-clause-s_len_bound : goal.value-requires-clause-s_len_bound
value-requires-clause-s_len_bound c =
    rw c.before-then-is_word.ensures (price_has _ _ c.requires (sym c.is_word.ensures ∙ c.if-is_word.true)).dollars.1

pub overflow_mul-result : goal.overflow_mul-result
overflow_mul-result c =
    let price = price_has _ _ c.requires (sym c.is_word.ensures ∙ c.if-is_word.true) in
    omega (arith, c.value.ensures ∙ ap value_of c.before-then-is_word.ensures, price.few)

pub value-requires-then-is_word-clause-s_value : goal.value-requires-then-is_word-clause-s_value
value-requires-then-is_word-clause-s_value c =
    rw c.behind.ensures (price_has _ _ c.requires (sym c.is_word.ensures ∙ c.if-is_word.true)).cents.0

pub value-requires-then-is_word-clause-s_len_bound : goal.value-requires-then-is_word-clause-s_len_bound
value-requires-then-is_word-clause-s_len_bound c =
    rw c.behind.ensures (price_has _ _ c.requires (sym c.is_word.ensures ∙ c.if-is_word.true)).cents.1

pub overflow_add-result : goal.overflow_add-result
overflow_add-result c =
    let price = price_has _ _ c.requires (sym c.is_word.ensures ∙ c.if-is_word.true) in
    let dollars = c.value.ensures ∙ ap value_of c.before-then-is_word.ensures in
    let cents = c.value-then-is_word.ensures ∙ ap value_of c.behind.ensures in
    omega (arith, dollars, price.few, cents, price.fewer)

pub returns-then-is_word : goal.returns-then-is_word
unfolding price_of
returns-then-is_word c =
    rw (c.value.ensures, c.before-then-is_word.ensures, c.value-then-is_word.ensures, c.behind.ensures)
    (sym (pick_yes _ _ (sym c.is_word.ensures ∙ c.if-is_word.true)))

pub returns-else-is_word : goal.returns-else-is_word
unfolding price_of
returns-else-is_word c = sym (pick_no _ _ (sym c.is_word.ensures ∙ c.if-is_word.false))
