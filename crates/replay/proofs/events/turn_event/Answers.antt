-- `replay::events::turn_event` meets its contract: what the turn makes of the market, its line and its fills.
use mathlib.Core.Path.{◌≡◌, ap}
use native.Mathlib.Omega.{arith}
use lib.ListN.{length}
use Rattle.session.specs.TurnAnswer.{TurnAnswer}
use Rattle.session.specs.Market.{market_in}
use Rattle.session.specs.Turn.{fills_in}
use Rattle.fills.specs.Calls.{Stored, blank, empty_row}
use Rattle.fills.specs.CallsLaws.{turn_few}
use Rattle.replay.specs.Answers.{tenant_of, turn_served}
use Rattle.replay.specs.ReplayLaws.{turn_replayed}
use Rattle.replay.proofs.events.turn_event.Goals as goal

tenant_is : {d e : Stored TurnAnswer} → d ≡ e → tenant_of d.answer ≡ tenant_of e.answer
tenant_is e = ap (λ (x : Stored TurnAnswer). tenant_of x.answer) e

fills_are : {d e : Stored TurnAnswer} → d ≡ e → fills_in d.answer ≡ fills_in e.answer
fills_are e = ap (λ (x : Stored TurnAnswer). fills_in x.answer) e

pub turn_lines-requires : goal.turn_lines-requires
turn_lines-requires c =
    let a = c.args in
    let m = market_in a.s.now a.book.now a.entries.now in
    let done = c.turn_on_row-done.ensures.exact in
    record {
      room = c.requires.room;
      answer_bound = omega (arith, tenant_is done, turn_served m (length empty_row) blank c.requires.sound);
      answer_bound_2 = omega (arith, fills_are done, turn_few m (length empty_row) blank);
    }

pub returns : goal.returns
returns c = turn_replayed _ _ _ _ _ _ c.turn_on_row-done.ensures.exact c.turn_on_row-done.ensures.sound c.turn_lines.ensures
