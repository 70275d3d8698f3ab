-- `window::refusal::digits` meets its contract: a number below 10 is one digit, and another has one more than its tenth.
use Rattle.std.proofs.Common.{arith}
use Rattle.window.specs.RefusalLaws.{low_long, high_long, lays_low, lays_high}
use Rattle.window.proofs.refusal.+digits.Goals as goal

pub bounds-out-at : goal.bounds-out-at
bounds-out-at t c = omega (arith, low_long _ c.if-n-lt10.true)

pub returns-then-n-lt10 : goal.returns-then-n-lt10
returns-then-n-lt10 t c = lays_low _ _ _ c.if-n-lt10.true

pub digits-last-requires : goal.digits-last-requires
digits-last-requires t c = (omega arith, omega (arith, high_long _ c.if-n-lt10.false))

pub bounds-out-last : goal.bounds-out-last
bounds-out-last t c = omega (arith, high_long _ c.if-n-lt10.false, c.digits-last.ensures.after, c.digits-last.auto.out)

pub overflow_add-result-2 : goal.overflow_add-result-2
overflow_add-result-2 t c = omega (arith, high_long _ c.if-n-lt10.false, c.digits-last.ensures.after)

pub returns : goal.returns
returns t c = lays_high _ c.if-n-lt10.false c.digits-last.ensures
