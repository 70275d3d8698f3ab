-- `figures::inscribe` meets its contract: what the loop has written stands in the output, and what is left to be made
-- is made of the bytes that are left.
use Rattle.std.proofs.Common.{◌≡◌, sym, ◌∙◌, length, arith}
use Rattle.figures.specs.InscribingLaws.{passing_starts, passing_writes, passing_stops, passing_goes_on, passing_ends}
use Rattle.figures.proofs.inscribe.Goals as goal

pub loop-i-init : goal.loop-i-init
loop-i-init c = passing_starts _ _ c.requires

pub returns-then-out-at-lt-MOST_BYTES : goal.returns-then-out-at-lt-MOST_BYTES
returns-then-out-at-lt-MOST_BYTES c = rw c.leave.ensures (passing_writes _ _ c.loop-i.invariant c.loop-i-test.true c.if-out-at-lt-MOST_BYTES.true)

pub returns-then-is_err : goal.returns-then-is_err
returns-then-is_err c =
    rw c.leave-then-is_err.ensures
    (passing_stops _ _ c.loop-i.invariant c.loop-i-test.true c.if-out-at-lt-MOST_BYTES.false c.take-taken.ensures (sym c.is_err.ensures.value ∙ c.if-is_err.true))

pub loop-i-preserved : goal.loop-i-preserved
loop-i-preserved c =
    passing_goes_on _ _ c.loop-i.invariant c.loop-i-test.true c.if-out-at-lt-MOST_BYTES.false c.take-taken.ensures c.take-taken.auto.numbers (sym c.is_err.ensures.value ∙ c.if-is_err.false)

pub returns : goal.returns
returns c =
    let all : c.loop-i.i ≡ length c.args.bytes.now = omega (arith, c.loop-i.invariant.within, c.loop-i-test.false) in
    rw (c.leave-2.ensures, ← all) (passing_ends _ _ c.loop-i.invariant c.loop-i-test.false c.used_up.ensures)
