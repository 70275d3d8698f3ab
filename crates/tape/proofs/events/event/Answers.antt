-- `event` meets its contract: by whether the tape ends, and what its number gave.
use Rattle.std.proofs.Common.{ap, ◌∙◌, arith, Err}
use Rattle.std.proofs.lemmas.Result.{IfErr-at_err}
use Rattle.tape.specs.Several.{refused, read}
use Rattle.tape.specs.Steps.{event_end, event_refused, event_told}
use Rattle.tape.proofs.events.event.Goals as goal

pub returns-then-s-at : goal.returns-then-s-at
returns-then-s-at c =
    let a = c.args in
    let e = event_end a.s.now a.at a.numbers.now (omega arith) in
    record { answer = e.0; entries = e.1 }

pub returns-in_default : goal.returns-in_default
returns-in_default c =
    let a = c.args in
    let e = event_refused a.s.now a.at a.numbers.now (omega (arith, c.if-s-at.false)) (refused a.s.now a.at c.read-told.ensures c.in_default.is) in
    record { answer = ap Err (IfErr-at_err _ c.in_default.is c.refused.ensures) ∙ e.0; entries = e.1 }

pub returns : goal.returns
returns c =
    let a = c.args in
    let e = event_told a.s.now a.at a.numbers.now (omega (arith, c.if-s-at.false)) (read _ _ c.read-told.ensures c.in-Ok.is)
    (c.of_kind.ensures.answer, c.of_kind.ensures.entries) in
    record { answer = e.0; entries = e.1 }
