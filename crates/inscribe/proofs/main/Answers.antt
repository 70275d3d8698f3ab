-- `inscribe::main` is safe and ends, and each turn of its loop keeps what stands in `Invariants.antt`.
use Rattle.std.proofs.Common.{◌≡◌, ap, ◌∙◌, rules, ℕ, arith}
use Rattle.std.proofs.Math.ListN.{length-replicate}
use Rattle.window.specs.Window.{window_long}
use Rattle.window.specs.Program.{status_byte, status_of}
use Rattle.window.specs.declared.program.Status.TheVariants.{Going}
use Rattle.figures.specs.Inscribing.{next_of}
use Rattle.inscribe.specs.Writing.{ends_well, writing_starts, fits_window, fits_output, turn_reads, turn_fails, turn_writes, turn_stops}
use Rattle.inscribe.proofs.main.Goals as goal

pub loop-turns-init : goal.loop-turns-init
loop-turns-init c = writing_starts c.new-place.ensures (length-replicate {A = ℕ} window_long 0) (length-replicate {A = ℕ} window_long 0) (omega arith)

pub refill-requires-clause-from_le_to : goal.refill-requires-clause-from_le_to
refill-requires-clause-from_le_to c = (fits_window c.loop-turns.invariant c.inscribe-done.ensures (search rules)).0

pub loop-turns-preserved-in-Ok : goal.loop-turns-preserved-in-Ok
loop-turns-preserved-in-Ok c =
    let going : c.loop-turns.status ≡ Going = search rules in
    let goes : status_byte c.loop-turns.status ≡ 0 = ap status_byte going in
    turn_reads c.loop-turns.invariant c.inscribe-done.ensures (search rules) goes (ap next_of c.in-Read.is) c.in-Ok.ensures.refilled c.loop-turns-test.true
    (λ stop. absurd (omega (arith, goes)))

pub loop-turns-preserved-in-Err : goal.loop-turns-preserved-in-Err
loop-turns-preserved-in-Err c =
    let going : c.loop-turns.status ≡ Going = search rules in
    turn_fails c.loop-turns.invariant c.inscribe-done.ensures (search rules) (ap status_byte going) (ap next_of c.in-Read.is) c.refill.ensures.refilled c.loop-turns-test.true

pub flush-status-requires : goal.flush-status-requires
flush-status-requires c = fits_output c.loop-turns.invariant c.inscribe-done.ensures (search rules)

pub loop-turns-preserved-in-Write : goal.loop-turns-preserved-in-Write
loop-turns-preserved-in-Write c =
    let going : c.loop-turns.status ≡ Going = search rules in
    turn_writes c.loop-turns.invariant c.inscribe-done.ensures (search rules) c.loop-turns-test.true (ap status_byte going) (ap next_of c.in-Write.is) c.flush-status.ensures

pub loop-turns-preserved : goal.loop-turns-preserved
loop-turns-preserved c =
    let going : c.loop-turns.status ≡ Going = search rules in
    turn_stops c.loop-turns.invariant c.inscribe-done.ensures (search rules) c.loop-turns-test.true (ap status_byte going) (ap next_of c.in-Stop.is)
    (c.status_of-status.ensures ∙ ap status_of (c.is_ok.ensures.value ∙ ends_well _))
