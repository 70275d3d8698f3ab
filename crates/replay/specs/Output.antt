-- What a whole tape prints: the lines of its events, each run on the market that the one before it left, then its last
-- line.
use Rattle.std.specs.Prelude.{List, [], ◌∷◌, ◌++◌, ℕ, replicate}
use Rattle.rows.specs.Rows.{rows}
use Rattle.book.specs.Book.{empty_book}
use Rattle.lines.specs.Lines.{tape_line, end_line}
use Rattle.lanes.specs.Ring.{all_entries}
use Rattle.tape.specs.Whole.{Sent, Ending, ended, refused, Whole, read_all}
use Rattle.session.specs.Market.{Market, market_of}
use Rattle.session.specs.Settings.{new_session}
use Rattle.replay.specs.Replay.{Printed, event_printed}

-- the lines of events run one after the other
unfoldable pub lines_of : Market → List Sent → List ℕ
lines_of m [] = []
lines_of m (x ∷ xs) =
    let p : Printed = event_printed m x.event x.numbers in
    p.bytes ++ lines_of p.market xs

-- A refused tape prints `tape C B`. A tape that ends between events prints `end`.
abbrev pub last_line : Ending → List ℕ
last_line ended = end_line
last_line (refused code place) = tape_line code place

-- what is printed from a market on
unfoldable pub printed_on : Market → Whole → List ℕ
printed_on m w = lines_of m w.events ++ last_line w.ending

-- a new session beside an empty book and empty lanes
abbrev pub new_market : Market
new_market = market_of new_session (empty_book rows) (replicate all_entries 0)

-- the whole output of a tape
unfoldable pub output_of : List ℕ → List ℕ
output_of tape = printed_on new_market (read_all tape)
