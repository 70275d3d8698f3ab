-- `of_kind` meets its contract: each arm is a row of the table, and the last is 33.
use Rattle.std.proofs.Common.{refl, arith, rules}
use Rattle.tape.specs.Kinds.{Other}
use Rattle.tape.specs.Tape.{kinds, form_in, form_of, reading}
use Rattle.tape.specs.Steps.{by_form, by_submit, by_none}
use Rattle.tape.proofs.events.of_kind.Goals as goal

pub returns-in-1 : goal.returns-in-1
unfolding form_in form_of reading
returns-in-1 c =
    let e = by_form _ _ _ _ 1 c.in-1.is (λ z. omega arith) (c.settings.ensures _) in
    record { answer = e.0; entries = e.1 }

pub returns-in-2 : goal.returns-in-2
unfolding form_in form_of reading
returns-in-2 c =
    let e = by_form _ _ _ _ 2 c.in-2.is (λ z. omega arith) (c.away.ensures _) in
    record { answer = e.0; entries = e.1 }

pub returns-in-3 : goal.returns-in-3
unfolding form_in form_of reading
returns-in-3 c =
    let e = by_submit _ _ _ _ c.in-3.is (c.submit.ensures.answer, c.submit.ensures.entries) in
    record { answer = e.0; entries = e.1 }

pub returns-in-4 : goal.returns-in-4
unfolding form_in form_of reading
returns-in-4 c =
    let e = by_form _ _ _ _ 4 c.in-4.is (λ z. omega arith) refl in
    record { answer = e.0; entries = e.1 }

pub returns-in-5 : goal.returns-in-5
unfolding form_in form_of reading
returns-in-5 c =
    let e = by_form _ _ _ _ 5 c.in-5.is (λ z. omega arith) refl in
    record { answer = e.0; entries = e.1 }

pub returns-in_default : goal.returns-in_default
unfolding form_in form_of reading
returns-in_default c =
    let none : Other (Unit {0}) kinds c.args.kind = search rules in
    let e = by_none _ _ _ _ none in
    record { answer = e.0; entries = e.1 }
