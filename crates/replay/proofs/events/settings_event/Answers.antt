-- `replay::events::settings_event` meets its contract: what settings answer, and their line.
use Rattle.replay.specs.Replay.{settings_printed}
use Rattle.replay.specs.ReplayLaws.{call_replayed}
use Rattle.lines.specs.Lines.{set_line}
use Rattle.replay.proofs.events.settings_event.Goals as goal

pub returns : goal.returns
unfolding settings_printed
returns c =
    let can = c.requires in
    call_replayed _ _ set_line _ _ _ _ c.settings-answer.ensures.exact (c.settings-answer.ensures.sound can.sound) (rw c.code.ensures at c.set_line.ensures)
