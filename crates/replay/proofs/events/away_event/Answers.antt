-- `replay::events::away_event` meets its contract: what an away quote is answered, and its line.
use Rattle.replay.specs.Replay.{away_printed}
use Rattle.replay.specs.ReplayLaws.{call_replayed}
use Rattle.lines.specs.Lines.{away_line}
use Rattle.replay.proofs.events.away_event.Goals as goal

pub returns : goal.returns
unfolding away_printed
returns c =
    λ b entries can.
    call_replayed _ _ away_line _ _ _ _ (c.away-answer.ensures.exact b entries) (c.away-answer.ensures.sound b entries can.sound) (rw c.code.ensures at c.away_line.ensures)
