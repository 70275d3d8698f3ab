-- The call turn.
use Rattle.std.specs.Prelude.{Option, Some, None, Bool, true, false, List, [], ◌∷◌, ℕ, leb, ltb, Result, Ok, Err}
use Rattle.units.specs.Tests.{pick}
use Rattle.units.specs.Cases.{Case, ◌when◌, first_of}
use Rattle.rows.specs.Rows.{rows}
use Rattle.book.specs.Book.{Book}
use Rattle.entry.specs.declared.Entry.{Entry}
use Rattle.entry.specs.declared.Quotes.{Quotes}
use Rattle.entry.specs.declared.refusal.Refusal.{Refusal}
use Rattle.entry.specs.Refusals.{refusal_number}
use Rattle.checks.specs.declared.Standing.{Standing}
use Rattle.lanes.specs.Ring.{waiting_at, taken}
use Rattle.lanes.specs.Rotation.{served}
use Rattle.tally.specs.Tallies.{counted, turns_in_all, most_turns}
use Rattle.tally.specs.declared.Tally.{Tally}
use Rattle.dealing.specs.declared.Dealt.{Dealt}
use Rattle.dealing.specs.declared.Came.{Came as Told}
use Rattle.dealing.specs.declared.Came.TheVariants as told
use Rattle.dealing.specs.Came.{Came, came_of}
use Rattle.dealing.specs.Came as came
use Rattle.dealing.specs.Floor.{Made, next_after}
use Rattle.dealing.specs.Deal.{quotes_on, standing_on, dealt}
use Rattle.dealing.specs.Open.{unset}
use Rattle.session.specs.declared.Session.{Session}
use Rattle.session.specs.declared.Taken.{Taken}
use Rattle.session.specs.declared.Taken.TheVariants as taken
use Rattle.session.specs.Left.{Turned}
use Rattle.session.specs.TurnAnswer.{TurnAnswer, turn_answer_of}
use Rattle.session.specs.TurnAnswer as answer
use Rattle.session.specs.Market.{Market, Done, market_of, with_lanes, with_next, with_tallies, floor_on}

abbrev pub TurnDone : Type 0
TurnDone = Done TurnAnswer

-- what a turn answered, beside the book, the entries and the fill records that it left
abbrev pub turn_done : Turned → Book → List ℕ → List ℕ → TurnDone
turn_done r book entries records = record { market = market_of r.session book entries; answer = turn_answer_of r.answer; records = records }

-- the same of the session that it left and its answer
abbrev pub turn_called : Session → Result Taken Refusal → Book → List ℕ → List ℕ → TurnDone
turn_called s answer book entries records = turn_done (record { session = s; answer = answer }) book entries records

-- the paper's values of a taken turn
pub record Line : Type 0 where
  pub tenant : ℕ
  pub code : ℕ
  pub number : ℕ
  pub filled : ℕ
  pub disposition : ℕ

-- a turn's answer in the paper's numbers: the refusal alone, or the values of a taken turn
pub data Printed : Type 0 where
  refused : ℕ → Printed
  turn : Line → Printed

-- an entry turned down gives 0 for number, filled and disposition
abbrev pub turned_down_by : ℕ → ℕ → Printed
turned_down_by tenant code = turn (record { tenant = tenant; code = code; number = 0; filled = 0; disposition = 0 })

-- an accepted cancel gives disposition 5, the cancelled order's number and filled 0
abbrev pub cancelled_as : ℕ → ℕ → Printed
cancelled_as tenant number = turn (record { tenant = tenant; code = 0; number = number; filled = 0; disposition = 5 })

-- an accepted order gives its number, what is filled and its disposition
abbrev pub accepted_as : ℕ → ℕ → ℕ → ℕ → Printed
accepted_as tenant number filled disposition =
    turn (record { tenant = tenant; code = 0; number = number; filled = filled; disposition = disposition })

abbrev pub printed : TurnAnswer → Printed
printed (answer.Refused code) = refused code
printed (answer.TurnedDown tenant code) = turned_down_by tenant code
printed (answer.Cancelled tenant number) = cancelled_as tenant number
printed (answer.Accepted tenant number filled disposition fills) = accepted_as tenant number filled.0 disposition

-- how many fill records a turn wrote
abbrev pub fills_in : TurnAnswer → ℕ
fills_in (answer.Refused code) = 0
fills_in (answer.TurnedDown tenant code) = 0
fills_in (answer.Cancelled tenant number) = 0
fills_in (answer.Accepted tenant number filled disposition fills) = fills

-- no lane has an entry
abbrev pub nobody : Option ℕ → Bool
nobody (Some t) = false
nobody None = true

-- the numbers in the order of checking: 5 no lane has an entry, 6 fewer than 216 fill records lent, 35 the tallies show
-- 1,000,000,000,000,000,000 turns taken in all
abbrev pub turn_cases : Session → ℕ → List Case
turn_cases s lent =
    unset s.accepted
    ∷ (5 when nobody (served s.lanes))
    ∷ (6 when ltb lent rows)
    ∷ (35 when leb most_turns (turns_in_all s.tallies))
    ∷ []

unfoldable pub turn_refusal : Session → ℕ → ℕ
turn_refusal s lent = first_of 0 (turn_cases s lent)

-- a turn that serves a lane is not refused
abbrev pub turn_code : Result ℕ Refusal → ℕ
turn_code (Ok t) = 0
turn_code (Err why) = refusal_number why

-- A taken turn removes the head entry of its lane and moves the place to the tenant after it; it counts as a turn of
-- that tenant.
unfoldable pub after_taking : Session → ℕ → Session
after_taking s t = with_tallies (with_lanes s (taken s.lanes t)) (counted s.tallies t 1 0 0)

-- the market once the turn of lane t is taken
abbrev pub once_taken : Market → ℕ → Market
once_taken m t = market_of (after_taking m.session t) m.book m.entries

-- the head entry of lane t
abbrev pub head_entry : Market → ℕ → Entry
head_entry m t = waiting_at m.session.lanes m.entries t 0

-- NBB and NBO of a market, and where it stands for a tenant
abbrev pub quotes_in : Market → Quotes
quotes_in m = quotes_on (floor_on m.session m.book)

abbrev pub standing_of : Market → ℕ → Standing
standing_of m t = standing_on (floor_on m.session m.book) t

-- what a taken turn of tenant t answers, by what came of its entry
abbrev pub answer_of : ℕ → Came → TurnAnswer
answer_of t (came.TurnedDown code) = answer.TurnedDown t code
answer_of t (came.Cancelled number) = answer.Cancelled t number
answer_of t (came.Accepted number filled disposition fills) = answer.Accepted t number filled disposition fills

-- and what is left of the market: an order that is accepted uses up the next number
abbrev pub session_after : Session → List Tally → Came → Session
session_after s tallies c = with_tallies (with_next s (next_after s.next c)) tallies

abbrev pub turn_made : Market → ℕ → Made → TurnDone
turn_made m t d = record {
  market = market_of (session_after m.session d.tallies d.came) d.book m.entries;
  answer = answer_of t d.came;
  records = d.records;
}

-- the same, as the turn returns it
abbrev pub taken_of : ℕ → Told → Taken
taken_of t (told.TurnedDown why) = taken.TurnedDown t why
taken_of t (told.Cancelled number) = taken.Cancelled t number
taken_of t (told.Accepted number filled disposition fills) = taken.Accepted t number filled disposition fills

abbrev pub turned_by : Session → ℕ → Dealt → Turned
turned_by s t done = record { session = session_after s done.tallies (came_of done.came); answer = Ok (taken_of t done.came) }

-- The entry of a taken turn is dealt with once the turn is taken.
abbrev pub entry_turn : Market → ℕ → List ℕ → Entry → TurnDone
entry_turn m t was e = turn_made m t (dealt (floor_on m.session m.book) t was e)

-- the turn of the lane served, with its head entry
abbrev pub turn_of_lane : Market → List ℕ → Option ℕ → TurnDone
turn_of_lane m was (Some t) = entry_turn (once_taken m t) t was (head_entry m t)
turn_of_lane m was None = record { market = m; answer = answer.Refused 5; records = was }

-- a refused turn returns the number alone and alters nothing
unfoldable pub turn_of : Market → ℕ → List ℕ → TurnDone
turn_of m lent was =
    pick (ltb 0 (turn_refusal m.session lent))
    (record { market = m; answer = answer.Refused (turn_refusal m.session lent); records = was })
    (turn_of_lane m was (served m.session.lanes))
