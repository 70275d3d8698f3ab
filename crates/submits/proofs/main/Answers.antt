-- `submits::main` is safe and ends, and each turn of its loop keeps what stands in `Invariants.antt`.
use Rattle.std.proofs.Common.{◌≡◌, ℕ, sym, ap, ◌∙◌, arith, rules}
use Rattle.std.proofs.Math.ListN.{length-replicate}
use Rattle.window.specs.Window.{window_long}
use Rattle.window.specs.Program.{status_byte, status_of}
use Rattle.window.specs.declared.program.Status.TheVariants.{Going}
use Rattle.submits.specs.SubmittingLaws.{submitting_starts, lent_long, turn_refused, turn_writes, turn_reads, turn_ends}
use Rattle.submits.proofs.main.Goals as goal

pub loop-turns-init : goal.loop-turns-init
loop-turns-init c = submitting_starts c.new-place.ensures (length-replicate {A = ℕ} window_long 0) (length-replicate {A = ℕ} window_long 0) (omega arith)

pub loop-turns-preserved-then-is_err : goal.loop-turns-preserved-then-is_err
loop-turns-preserved-then-is_err c =
    let going : c.loop-turns.status ≡ Going = search rules in
    turn_refused c.loop-turns.invariant c.send-sent.ensures c.loop-turns-test.true (ap status_byte going) (sym c.is_err.ensures.value ∙ c.if-is_err.true)

pub loop-turns-preserved-then-at-lt-MOST_BYTES : goal.loop-turns-preserved-then-at-lt-MOST_BYTES
loop-turns-preserved-then-at-lt-MOST_BYTES c =
    let going : c.loop-turns.status ≡ Going = search rules in
    turn_writes c.loop-turns.invariant c.send-sent.ensures c.loop-turns-test.true (ap status_byte going) (sym c.is_err.ensures.value ∙ c.if-is_err.false) c.flush-status.ensures

pub loop-turns-preserved-in-Ok : goal.loop-turns-preserved-in-Ok
loop-turns-preserved-in-Ok c =
    let going : c.loop-turns.status ≡ Going = search rules in
    let goes : status_byte c.loop-turns.status ≡ 0 = ap status_byte going in
    turn_reads c.loop-turns.invariant c.send-sent.ensures c.loop-turns-test.true goes (sym c.is_err.ensures.value ∙ c.if-is_err.false) c.in-Ok.ensures.refilled
    (λ stop. absurd (omega (arith, goes)))

pub loop-turns-preserved : goal.loop-turns-preserved
loop-turns-preserved c =
    let going : c.loop-turns.status ≡ Going = search rules in
    turn_ends c.loop-turns.invariant c.send-sent.ensures c.loop-turns-test.true (ap status_byte going) (sym c.is_err.ensures.value ∙ c.if-is_err.false)
    (omega (arith, lent_long c.loop-turns.invariant c.send-sent.ensures, c.if-at-lt-MOST_BYTES.false)) c.if-more.false c.finish-told.ensures (c.status_of-status.ensures ∙ ap status_of c.is_ok.ensures.value)
