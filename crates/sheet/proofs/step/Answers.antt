-- `sheet::step` meets its contract: the bytes passed are no newlines, and stand in the memory behind those of the line
-- that had come.
use Rattle.sheet.specs.ReadingLaws.{reading_line, reading_full, reading_goes_on, reading_ends}
use Rattle.sheet.proofs.step.Goals as goal

pub returns-then-b-eq-NEWLINE : goal.returns-then-b-eq-NEWLINE
returns-then-b-eq-NEWLINE c =
    let e = reading_line _ _ _ _ c.loop-i.invariant c.loop-i-test.true c.if-b-eq-NEWLINE.true c.end_line.ensures in
    record { answer = e.0; kept = e.1 }

pub returns-then-count-eq-LINE_MOST : goal.returns-then-count-eq-LINE_MOST
returns-then-count-eq-LINE_MOST c =
    let e = reading_full _ _ _ _ c.loop-i.invariant c.loop-i-test.true c.if-b-eq-NEWLINE.false c.if-count-eq-LINE_MOST.true in
    record { answer = e.0; kept = e.1 }

pub loop-i-preserved : goal.loop-i-preserved
loop-i-preserved c = reading_goes_on _ _ _ _ c.loop-i.invariant c.loop-i-test.true c.if-b-eq-NEWLINE.false c.if-count-eq-LINE_MOST.false

pub returns : goal.returns
returns c = let e = reading_ends _ _ _ _ c.loop-i.invariant c.loop-i-test.false in record { answer = e.0; kept = e.1 }
