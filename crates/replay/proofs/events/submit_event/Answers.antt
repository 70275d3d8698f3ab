-- `replay::events::submit_event` meets its contract: what a submit is answered, and its line.
use mathlib.Core.Path.{ap, ◌∙◌}
use mathlib.Core.List.{List}
use Prim.Native.Nat.{ℕ}
use Rattle.lines.specs.Lines.{submit_line}
use Rattle.session.specs.Market.{market_of}
use Rattle.session.specs.Submit.{submit_of}
use Rattle.replay.specs.Replay.{submit_printed}
use Rattle.replay.specs.ReplayLaws.{take_lent, call_replayed}
use Rattle.replay.proofs.events.submit_event.Goals as goal

pub returns : goal.returns
unfolding submit_printed
returns c =
    λ b can.
    let a = c.args in
    let given = take_lent _ _ a.given.now c.numbers_of-n.ensures in
    call_replayed _ _ submit_line _ _ _ _
    (c.submit-answer.ensures.exact b ∙ ap (λ (l : List ℕ). submit_of (market_of a.s.now b a.entries.now) a.tenant a.count l) given)
    (c.submit-answer.ensures.sound b can.sound) (rw c.code.ensures at c.submit_line.ensures)
