-- A whole tape: the events that it holds in their order, each with the numbers of its entries, and how it ends.
use Rattle.std.specs.Prelude.{List, [], ◌∷◌, ℕ, zero, suc, ◌-◌, length, Some, None, Ok, Err}
use Rattle.tape.specs.declared.Event.{Event}
use Rattle.tape.specs.Refusal.{refusal_number}
use Rattle.tape.specs.Tape.{Reading, event_at, entries_at}

-- an event of a tape, with the numbers of its entries, which a submit alone has
pub record Sent : Type 0 where
  pub event : Event
  pub numbers : List ℕ

-- a tape ends between two events, or is refused by a number, with the place of the bad number's first byte
pub data Ending : Type 0 where
  ended : Ending
  refused : ℕ → ℕ → Ending

-- what a tape holds
pub record Whole : Type 0 where
  pub events : List Sent
  pub ending : Ending

-- a tape that holds no event
abbrev pub nothing_but : Ending → Whole
nothing_but ending = record { events = []; ending = ending }

-- an event before others
infixr 20 ◌before◌
abbrev pub ◌before◌ : Sent → Whole → Whole
x before w = record { events = x ∷ w.events; ending = w.ending }

-- by what is read at a place: an event comes before what the tape holds from its end on; a refused tape stops, and the
-- unfinished event is none of its events
abbrev pub read_by : List ℕ → (ℕ → Whole) → Reading → Whole
read_by numbers from (Ok (Some (e, end))) = record { event = e; numbers = numbers } before from end
read_by numbers from (Err r) = nothing_but (refused (refusal_number r.why) r.place)
read_by numbers from (Ok None) = nothing_but ended

-- what the tape holds from a place on, at most n events
unfoldable pub read_most : ℕ → List ℕ → ℕ → Whole
read_most zero s at = nothing_but ended
read_most (suc n) s at = read_by (entries_at s at) (read_most n s) (event_at s at)

-- what the tape holds from a place on: no more events than bytes, since each takes one at least
abbrev pub read_from : List ℕ → ℕ → Whole
read_from s at = read_most (length s - at) s at

-- what a whole tape holds
abbrev pub read_all : List ℕ → Whole
read_all s = read_from s 0
