-- `replay::events::open_event` meets its contract: what the open makes of the market, its line, its fills, and what is
-- gone between the sizes before and after.
use mathlib.Core.Path.{◌≡◌, ap, ◌∙◌}
use mathlib.Core.List.{[]}
use native.Mathlib.Omega.{arith}
use lib.ListN.{length}
use Rattle.book.specs.Lent.{book_in}
use Rattle.session.specs.OpenAnswer.{OpenAnswer}
use Rattle.session.specs.Market.{market_of}
use Rattle.session.specs.Open.{fills_in}
use Rattle.session.specs.OpenLaws.{numbers_stand}
use Rattle.fills.specs.Calls.{Stored, blank, empty_row}
use Rattle.fills.specs.CallsLaws.{open_few}
use Rattle.replay.specs.ReplayLaws.{open_replayed}
use Rattle.replay.proofs.events.open_event.Goals as goal

fills_are : {d e : Stored OpenAnswer} → d ≡ e → fills_in d.answer ≡ fills_in e.answer
fills_are e = ap (λ (x : Stored OpenAnswer). fills_in x.answer) e

pub open_lines-requires : goal.open_lines-requires
open_lines-requires c =
    let a = c.args in
    let m = market_of a.s.now (book_in a.book.now) [] in
    record {
      room = c.requires.room;
      answer_bound = omega (arith, fills_are (c.open_on_row-done.ensures.exact []), open_few m (length empty_row) blank);
    }

pub returns : goal.returns
returns c =
    λ entries can.
    let a = c.args in
    let exact = c.open_on_row-done.ensures.exact entries in
    let kept : c.open_on_row-done.new.book.numbers ≡ a.book.now.numbers =
    ap (λ (d : Stored OpenAnswer). d.market.book.numbers) exact ∙ numbers_stand (market_of a.s.now (book_in a.book.now) entries) _ _ in
    open_replayed _ _ _ _ _ _ exact (c.open_on_row-done.ensures.sound entries can.sound) (rw kept at c.open_lines.ensures)
