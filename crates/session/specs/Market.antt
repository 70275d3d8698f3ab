-- A market: a session with the columns of its book and its lanes' entries; its parts, and the words by which contracts
-- name it. Calls, and the numbers they answer.
use Rattle.std.specs.Prelude.{Bool, Result, List, ℕ}
use Rattle.units.specs.declared.Cents.{Cents}
use Rattle.book.specs.Book.{Book}
use Rattle.book.specs.Lent.{book_in}
use Rattle.book.specs.declared.Book.{Book as Columns}
use Rattle.entry.specs.declared.Away.{Away}
use Rattle.entry.specs.declared.refusal.Refusal.{Refusal}
use Rattle.entry.specs.Refusals.{code_of}
use Rattle.lanes.specs.declared.Lanes.{Lanes}
use Rattle.tally.specs.declared.Tally.{Tally}
use Rattle.dealing.specs.declared.Series.{Series}
use Rattle.dealing.specs.Floor.{Floor, floor_of}
use Rattle.session.specs.Left.{Answered}
use Rattle.session.specs.declared.Session.{Session}

pub record Market : Type 0 where
  pub session : Session
  pub book : Book
  -- the numbers of all lanes' entries
  pub entries : List ℕ

-- what settings, away and submit make of a market, and what they answer: 0, or the number of the refusal
pub record Called : Type 0 where
  pub market : Market
  pub code : ℕ

-- what a turn or an open makes of a market and of the fill records lent to it, and what it answers
pub record Done (A : Type 0) : Type 0 where
  pub market : Market
  pub answer : A
  pub records : List ℕ

-- the market of a session, a book and the lanes' entries
abbrev pub market_of : Session → Book → List ℕ → Market
market_of s book entries = record { session = s; book = book; entries = entries }

-- the same of the book that is lent
abbrev pub market_in : Session → Columns → List ℕ → Market
market_in s book entries = market_of s (book_in book) entries

-- a session with other parts than those that its settings fix
abbrev pub session_with : Session → Away → Bool → Lanes → ℕ → List Tally → Session
session_with s away opened lanes next tallies = record {
  accepted = s.accepted;
  terms = s.terms;
  away = away;
  opened = opened;
  lanes = lanes;
  next = next;
  tallies = tallies;
}

-- with one part set
abbrev pub with_away : Session → Cents → Cents → Session
with_away s bid offer = session_with s (record { bid = bid; offer = offer }) s.opened s.lanes s.next s.tallies

abbrev pub with_opened : Session → Bool → Session
with_opened s opened = session_with s s.away opened s.lanes s.next s.tallies

abbrev pub with_lanes : Session → Lanes → Session
with_lanes s lanes = session_with s s.away s.opened lanes s.next s.tallies

abbrev pub with_next : Session → ℕ → Session
with_next s next = session_with s s.away s.opened s.lanes next s.tallies

abbrev pub with_tallies : Session → List Tally → Session
with_tallies s tallies = session_with s s.away s.opened s.lanes s.next tallies

-- the parts of its series, and what an entry meets in it with a book
abbrev pub series_of : Session → Series
series_of s = record { terms = s.terms; away = s.away; opened = s.opened }

abbrev pub floor_on : Session → Book → Floor
floor_on s b = floor_of (series_of s) s.tallies s.next b

-- what a call answered, beside the book and the entries that it left
abbrev pub answered_of : Answered → Book → List ℕ → Called
answered_of r book entries = record { market = market_of r.session book entries; code = code_of r.answer }

-- the same of the session that it left and its answer
abbrev pub called : Session → Result Unit Refusal → Book → List ℕ → Called
called s answer book entries = answered_of (record { session = s; answer = answer }) book entries
