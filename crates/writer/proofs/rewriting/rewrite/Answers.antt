-- `rewrite` meets its contract: what is read is what is written.
use Rattle.std.proofs.Common.{sym, ap, ◌∙◌, length-take-le, arith, Ok}
use Rattle.std.proofs.lemmas.Result.{err_from_is_err_and}
use Rattle.writer.specs.RewritingLaws.{of_entries, rewrites_event, rewrites_refused, rewrites_end}
use Rattle.writer.proofs.rewriting.rewrite.Goals as goal

pub returns-in_err-e : goal.returns-in_err-e
returns-in_err-e c =
    let refused = err_from_is_err_and c.from_residual.result c.from_residual.ensures.1 in
    let e = rewrites_refused _ _ _ c.event.ensures.answer c.in_err-e.was in
    record { answer = rw (refused.1, refused.2) e.0; bytes = e.1 }

pub returns-in_default : goal.returns-in_default
returns-in_default c =
    let e = rewrites_end _ _ _ c.event.ensures.answer (c.in_ok-e.was ∙ ap Ok c.in_default.is) in
    record { answer = e.0; bytes = e.1 }

-- the numbers of the event's entries are the first of those that were stored
pub slice_bounds-entries-end : goal.slice_bounds-entries-end
slice_bounds-entries-end c =
    let told = c.in_ok-e.was ∙ ap Ok c.in-Some.is in
    let entries = of_entries _ _ _ (omega arith) c.event.ensures.answer told c.event.ensures.entries c.entries_in-given.ensures in
    entries.fits

pub slice_bounds-copy-end : goal.slice_bounds-copy-end
slice_bounds-copy-end c =
    let told = c.in_ok-e.was ∙ ap Ok c.in-Some.is in
    let entries = of_entries _ _ _ (omega arith) c.event.ensures.answer told c.event.ensures.entries c.entries_in-given.ensures in
    sym (length-take-le _ _ entries.fits)

pub returns : goal.returns
returns c =
    let told = c.in_ok-e.was ∙ ap Ok c.in-Some.is in
    let entries = of_entries _ _ _ (omega arith) c.event.ensures.answer told c.event.ensures.entries c.entries_in-given.ensures in
    let e = rewrites_event _ _ _ c.event.ensures.answer _ told entries.same c.copy-written.ensures.answer c.copy-written.ensures.bytes in
    record { answer = e.0; bytes = e.1 }
