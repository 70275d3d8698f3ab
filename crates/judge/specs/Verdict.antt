-- The whole judgement of a new order.
use Rattle.std.specs.Prelude.{ltb}
use Rattle.units.specs.Tests.{pick}
use Rattle.entry.specs.declared.Entry.{Entry}
use Rattle.entry.specs.declared.Quotes.{Quotes}
use Rattle.entry.specs.declared.Terms.{Terms}
use Rattle.checks.specs.declared.Standing.{Standing}
use Rattle.checks.specs.TurnDown.{as_judged, turn_down}
use Rattle.judge.specs.Judged.{Judged, TurnedDown, Rests, Trades}
use Rattle.judge.specs.Bound.{bound_of}

-- turned down; or, once open, it trades within its bound; before opening a day limit simply rests
unfoldable pub verdict : Entry → Quotes → Terms → Standing → Judged
verdict e q t s =
    pick (ltb 0 (turn_down e q t s)) (TurnedDown (turn_down e q t s))
    (pick s.opened (Trades (as_judged e q t) (bound_of (as_judged e q t) q t)) (Rests (as_judged e q t)))
