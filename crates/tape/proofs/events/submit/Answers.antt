-- `submit` meets its contract: each return by what the tenant, the count and the entries gave.
use Rattle.std.proofs.Common.{sym, ap, ◌∙◌, Err}
use Rattle.std.proofs.lemmas.Result.{IfErr-at_err, err_from_is_err_and}
use Rattle.tape.specs.declared.Event.TheVariants.{Submit}
use Rattle.tape.specs.Several.{Several, after_several, refused, read}
use Rattle.tape.specs.Steps.{read_after, refused_after, submit_tenant, submit_count, submit_34, submit_read}
use Rattle.tape.proofs.events.submit.Goals as goal

pub returns-in_default : goal.returns-in_default
returns-in_default c =
    let a = c.args in
    let e = submit_tenant a.s.now a.at a.numbers.now (refused a.s.now a.at c.read-named.ensures c.in_default.is) in
    record { answer = λ last. ap Err (IfErr-at_err _ c.in_default.is c.refused.ensures) ∙ e.0 last; entries = e.1 }

pub returns-in_default-counted : goal.returns-in_default-counted
returns-in_default-counted c =
    let a = c.args in
    let e = submit_count a.s.now a.at a.numbers.now (read _ _ c.read-named.ensures c.in-Ok.is)
    (refused a.s.now _ c.read-counted.ensures c.in_default-counted.is) in
    record {
      answer = λ last. ap Err (IfErr-at_err _ c.in_default-counted.is c.refused-in_default-counted.ensures) ∙ e.0 last;
      entries = e.1;
    }

pub returns-then-not-in_bulk : goal.returns-then-not-in_bulk
returns-then-not-in_bulk c =
    let a = c.args in
    let e = submit_34 a.s.now a.at a.numbers.now (read _ _ c.read-named.ensures c.in-Ok.is) (read _ _ c.read-counted.ensures c.in-Ok-counted.is)
    (sym c.in_bulk.ensures ∙ c.if-not-in_bulk.true) in
    record { answer = e.0; entries = e.1 }

pub returns-in_err-end : goal.returns-in_err-end
returns-in_err-end c =
    let a = c.args in
    let event = Submit c.in-Ok.tenant c.in-Ok-counted.count in
    let e = submit_read a.s.now a.at a.numbers.now (read _ _ c.read-named.ensures c.in-Ok.is) (read _ _ c.read-counted.ensures c.in-Ok-counted.is)
    (sym c.in_bulk.ensures ∙ c.if-not-in_bulk.false) in
    let told = err_from_is_err_and c.from_residual.result c.from_residual.ensures.1 in
    record {
      answer = λ last. rw (told.1, told.2) (refused_after event c.in_err-end.was ∙ ap (λ (all : Several). after_several all event) c.read_several.ensures.answer ∙ e.0 last);
      entries = c.read_several.ensures.kept ∙ e.1;
    }

pub returns : goal.returns
returns c =
    let a = c.args in
    let event = Submit c.in-Ok.tenant c.in-Ok-counted.count in
    let e = submit_read a.s.now a.at a.numbers.now (read _ _ c.read-named.ensures c.in-Ok.is) (read _ _ c.read-counted.ensures c.in-Ok-counted.is)
    (sym c.in_bulk.ensures ∙ c.if-not-in_bulk.false) in
    record {
      answer = λ last. read_after event c.in_ok-end.was ∙ ap (λ (all : Several). after_several all event) c.read_several.ensures.answer ∙ e.0 last;
      entries = c.read_several.ensures.kept ∙ e.1;
    }
