-- What the loop of `submits::send` keeps: what it has sent, no line being refused. The measure is what is left of the
-- bytes.
use Rattle.std.specs.Prelude.{◌-◌, length}
use Rattle.submits.specs.SendingLaws.{Sending}
use Rattle.submits.proofs.send.Given as goal

abbrev pub invariant-loop-sent : goal.invariant-loop-sent
invariant-loop-sent l = Sending l.bytes l.fn.from l.initial.sent.place l.initial.held l.initial.out l.fn.at l.sent l.held l.out

abbrev pub decreases-loop-sent : goal.decreases-loop-sent
decreases-loop-sent l = length l.bytes - l.sent.from
