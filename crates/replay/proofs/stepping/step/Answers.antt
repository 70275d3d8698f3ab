-- `replay::stepping::step` meets its contract, by what was read at the place.
use mathlib.Core.Path.{refl, ap, ◌∙◌}
use Rattle.std.specs.Prelude.{Ok}
use native.Mathlib.Omega.{arith}
use Rattle.session.specs.Market.{market_in}
use Rattle.replay.specs.SteppingLaws.{refused_fits, step_read, step_refused, step_end}
use Rattle.replay.proofs.stepping.step.Goals as goal

pub overflow_add-base : goal.overflow_add-base
overflow_add-base c =
    let a = c.args in
    omega (arith, refused_fits a.bytes.now a.from a.base _ _ c.event.ensures.answer c.in-Err.is c.requires.bytes_bound)

pub returns-in-Ok-Some : goal.returns-in-Ok-Some
returns-in-Ok-Some c =
    let a = c.args in
    let m = market_in a.s.now a.book.now a.entries.now in
    step_read m a.bytes.now a.from a.base a.given.now a.out.now a.at _ c.event.ensures.answer _ c.event.ensures.entries _ _ _ _ _
    (c.in-Ok-Some.is ∙ ap Ok c.in-Ok-Some.field-0-is) c.event-printed.ensures refl refl

pub returns-in-Err : goal.returns-in-Err
returns-in-Err c =
    let a = c.args in
    let m = market_in a.s.now a.book.now a.entries.now in
    step_refused m a.bytes.now a.from a.base a.given.now a.out.now a.at _ c.event.ensures.answer _ c.event.ensures.entries c.requires.can_replay _ _ refl _
    c.in-Err.is (rw c.number.ensures at c.tape_line.ensures) refl

pub returns-in-Ok-None : goal.returns-in-Ok-None
returns-in-Ok-None c =
    let a = c.args in
    let m = market_in a.s.now a.book.now a.entries.now in
    step_end m a.bytes.now a.from a.base a.given.now a.out.now a.at _ c.event.ensures.answer _ c.event.ensures.entries c.requires.can_replay _ _ refl
    (c.in-Ok-None.is ∙ ap Ok c.in-Ok-None.field-0-is) c.end_line.ensures refl
