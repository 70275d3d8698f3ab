-- `numeral::read` meets its contract: one byte and two bytes by the laws of `Steps`, and else what `groups` ensures at
-- five groups.
use Rattle.std.proofs.Common.{◌+◌, sym, ap, ◌∙◌, arith}
use Rattle.std.proofs.lemmas.Result.{err_from_is_err_and}
use Rattle.numeral.specs.Number.{groups, placed, number_at}
use Rattle.numeral.specs.Laws.{place}
use Rattle.numeral.specs.Steps.{at_last, at_two, joined_zero, joined_read}
use Rattle.numeral.proofs.read.Goals as goal

pub returns-then-b-lt128 : goal.returns-then-b-lt128
unfolding number_at
returns-then-b-lt128 c =
    let a = c.args in
    sym (at_last groups a.s.now a.at (λ z. omega arith) (omega arith) (omega arith))

pub returns-then-c-eq0 : goal.returns-then-c-eq0
unfolding number_at
returns-then-c-eq0 c =
    let a = c.args in
    sym (at_two groups a.s.now a.at (omega arith) (omega arith) (omega arith) (omega arith) ∙ joined_zero _ _ _ c.if-c-eq0.true)

pub returns-then-c-lt128 : goal.returns-then-c-lt128
unfolding number_at
returns-then-c-lt128 c =
    let a = c.args in
    sym (at_two groups a.s.now a.at (omega arith) (omega arith) (omega arith) (omega arith) ∙ joined_read _ _ _ (omega arith) c.if-c-eq0.false (omega arith))

pub returns-in_err-value : goal.returns-in_err-value
unfolding number_at
returns-in_err-value c =
    let told = err_from_is_err_and c.from_residual.result c.from_residual.ensures.1 in
    rw (told.1, told.2) (sym (ap (placed c.args.at) c.in_err-value.was) ∙ c.groups.ensures.answer)

pub overflow_add-result-2 : goal.overflow_add-result-2
unfolding number_at
overflow_add-result-2 c =
    let a = c.args in
    let n = sym c.groups.ensures.answer ∙ ap (placed a.at) c.in_ok-value.was in
    omega (arith, (place a.s.now a.at c.in_ok-value.value (a.at + c.in_ok-value.count) n).1)

pub returns : goal.returns
unfolding number_at
returns c = sym (ap (placed c.args.at) c.in_ok-value.was) ∙ c.groups.ensures.answer
