-- Sending the bytes of a sheet that are at hand: each order's submit is written as an event of a tape, one behind the
-- other, as long as the output has room for the longest event.
use Rattle.std.specs.Prelude.{◌≡◌, true, false, Result, Ok, Err, is_err, List, ℕ, ◌+◌, ◌-◌, ◌≤◌, ◌<◌, length}
use Rattle.tape.specs.Depth.{most_bytes}
use Rattle.writer.specs.Tapes.{tape_of}
use Rattle.window.specs.Refusal.{Lays}
use Rattle.sheet.specs.declared.Order.{Order}
use Rattle.sheet.specs.declared.Place.{Place}
use Rattle.sheet.specs.declared.Refused.{Refused}
use Rattle.sheet.specs.Line.{refusal_number}
use Rattle.sheet.specs.Sheet.{Ending, ended, refused, all_before}
use Rattle.sheet.specs.Reading.{lines}
use Rattle.sheet.specs.Submits.{submits_of}
use Rattle.sheet.specs.Parts.{Reader}
use Rattle.sheet.specs.PartsLaws.{Good, left}
use Rattle.submits.specs.declared.Sent.{Sent}

-- the tape of orders: their submits
abbrev pub sent_of : List Order → List ℕ
sent_of os = tape_of (submits_of os)

-- a reader of the bytes at hand
abbrev pub reader_of : List ℕ → ℕ → Place → List ℕ → Reader
reader_of bytes from p held = record { place = p; held = held; part = bytes; from = from }

-- how a sheet ends of which that is told
abbrev pub ending_of : Result (Unit {0}) Refused → Ending
ending_of (Ok _) = ended
ending_of (Err r) = refused (refusal_number r.why) r.line

-- what one step asks: a reader that can go on, a line number that fits, and room for the longest event
pub record CanSend (bytes : List ℕ) (from : ℕ) (p : Place) (held out : List ℕ) (at : ℕ) : Type 0 where
  pub good : Good (reader_of bytes from p held)
  pub line_fits : p.line + 1 < lines
  pub room : at + most_bytes ≤ length out

-- What sending leaves: the submits of the orders that it met stand in the output, and whatever comes behind the bytes
-- at hand, what is told from its start on is these orders and then what is told from where it stands, or its refusal.
pub record Sends (bytes : List ℕ) (from : ℕ) (p : Place) (held out : List ℕ) (at : ℕ) (r : Sent) (kept lent : List ℕ) : Type 0 where
  pub orders : List Order
  pub laid : Lays out at (sent_of orders) r.at lent
  pub goes_on : is_err r.told ≡ false → (rest : List ℕ) → left (reader_of bytes from p held) rest ≡ all_before orders (left (reader_of bytes r.from r.place kept) rest)
  pub stops : is_err r.told ≡ true → (rest : List ℕ) → left (reader_of bytes from p held) rest ≡ record { orders = orders; ending = ending_of r.told }
  pub good : Good (reader_of bytes r.from r.place kept)
  pub kept_long : length kept ≡ length held
  pub onward : from ≤ r.from
  pub few_lines : r.place.line ≤ p.line + (r.from - from)
  pub fits : r.at ≤ length out

-- one step uses a byte where there is one
pub record SendsLine (bytes : List ℕ) (from : ℕ) (p : Place) (held out : List ℕ) (at : ℕ) (r : Sent) (kept lent : List ℕ) : Type 0 where
  pub sends : Sends bytes from p held out at r kept lent
  pub moves : is_err r.told ≡ false → from < length bytes → from < r.from

-- What sending all bytes at hand asks: the same, with line numbers that fit whatever they hold, and no room yet.
pub record CanSendAll (bytes : List ℕ) (from : ℕ) (p : Place) (held out : List ℕ) (at : ℕ) : Type 0 where
  pub good : Good (reader_of bytes from p held)
  pub lines_fit : p.line + length bytes + 1 < lines
  pub room : at ≤ length out

-- It leaves off where the sheet is refused, where the output has no room for the longest event, or where all bytes are
-- used.
pub record SendsAll (bytes : List ℕ) (from : ℕ) (p : Place) (held out : List ℕ) (at : ℕ) (r : Sent) (kept lent : List ℕ) : Type 0 where
  pub sends : Sends bytes from p held out at r kept lent
  pub all : is_err r.told ≡ false → most_bytes ≤ length out - r.at → r.from ≡ length bytes
