-- One step along a tape: the event at a place is run and printed, or the tape's last line is.
use Rattle.std.specs.Prelude.{◌≡◌, List, ℕ, ◌+◌, ◌≤◌, length, Option, Some, None, Ok, Err}
use Rattle.lines.specs.Laying.{Laid}
use Rattle.lines.specs.Lines.{tape_line, end_line}
use Rattle.tape.specs.Refusal.{refusal_number}
use Rattle.tape.specs.Tape.{Reading, event_at, entries_after}
use Rattle.session.specs.Market.{Market}
use Rattle.session.specs.Sound.{Sound}
use Rattle.replay.specs.declared.stepping.Ending.{Ending}
use Rattle.replay.specs.declared.stepping.Ending.TheVariants.{Ended, Refused}
use Rattle.replay.specs.declared.stepping.Reached as code
use Rattle.replay.specs.Listing.{longest_event}
use Rattle.replay.specs.Replay.{Printed, event_printed}

-- the tape goes on, or it ended between two events, or was refused: nothing, `0` and `1`
abbrev pub going : ℕ
going = 0

abbrev pub ended : ℕ
ended = 48

abbrev pub refused : ℕ
refused = 49

-- how a tape ended, in numbers
abbrev pub status_of : Option Ending → ℕ
status_of None = going
status_of (Some Ended) = ended
status_of (Some Refused) = refused

-- what a step prints and makes of the market, the place of the next event, what is lent for the numbers of entries, and
-- whether the tape goes on
pub record Step : Type 0 where
  pub printed : Printed
  pub given : List ℕ
  pub from : ℕ
  pub status : ℕ

-- the tape's last line leaves the market as it was
abbrev pub last : Market → List ℕ → Printed
last m bytes = record { market = m; bytes = bytes }

-- An event is run. A refused tape prints `tape C B`, B counted from the tape's start, and stops; the unfinished event
-- isn't run. A tape that ends between events prints `end`.
abbrev pub step_by : Market → ℕ → ℕ → List ℕ → Reading → Step
step_by m from base given (Ok (Some (e, end))) = record { printed = event_printed m e given; given = given; from = end; status = going }
step_by m from base given (Err r) =
    record { printed = last m (tape_line (refusal_number r.why) (base + r.place)); given = given; from = from; status = refused }
step_by m from base given (Ok None) = record { printed = last m end_line; given = given; from = from; status = ended }

-- the step at the place `from` of bytes of the tape, the first of which stands at the place `base` of the tape
unfoldable pub step_of : Market → List ℕ → ℕ → ℕ → List ℕ → Step
step_of m bytes from base given = step_by m from base (entries_after bytes from given) (event_at bytes from)

-- what a step leaves: exactly what it makes, its bytes from the place `start` on, and what the next step asks
pub record StepsTo (p : Step) (bytes : List ℕ) (from : ℕ) (out : List ℕ) (start : ℕ) (r : code.Reached) (m : Market) (given lent : List ℕ) : Type 0 where
  pub market : m ≡ p.printed.market
  pub given_is : given ≡ p.given
  pub laid : Laid out start p.printed.bytes longest_event lent r.at
  pub next : r.from ≡ p.from
  pub status : status_of r.ending ≡ p.status
  pub sound : Sound m
  pub on_tape : from ≤ length bytes → r.from ≤ length bytes
