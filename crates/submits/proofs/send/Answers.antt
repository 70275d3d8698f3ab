-- `submits::send` meets its contract: each step goes on behind what is sent, or stops.
use Rattle.std.proofs.Common.{sym, ◌∙◌}
use Rattle.submits.specs.SendingLaws.{sending_starts, sending_stops, sending_goes_on}
use Rattle.submits.proofs.send.Goals as goal

pub loop-sent-init : goal.loop-sent-init
loop-sent-init c = sending_starts _ _ _ _ _ _ c.requires

pub returns-then-is_err : goal.returns-then-is_err
returns-then-is_err c =
    sending_stops c.loop-sent.invariant c.loop-sent-test.true c.if-out-sent-lt-MOST_BYTES.false c.send_line-sent.ensures (sym c.is_err.ensures.value ∙ c.if-is_err.true)

pub loop-sent-preserved : goal.loop-sent-preserved
loop-sent-preserved c =
    sending_goes_on c.loop-sent.invariant c.loop-sent-test.true c.if-out-sent-lt-MOST_BYTES.false c.send_line-sent.ensures (sym c.is_err.ensures.value ∙ c.if-is_err.false)
