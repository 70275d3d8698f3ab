-- Inscribing the bytes of a text that are at hand: line after line is read and written, as long as the output has room.
use Rattle.std.specs.Prelude.{◌≡◌, Result, Ok, Err, Bool, List, [], ◌∷◌, ◌++◌, ℕ, ◌+◌, ◌-◌, ◌≤◌, ◌<◌, ltb, eqb, length, drop}
use Rattle.std.proofs.lemmas.List.Edits.{sets}
use Rattle.units.specs.Tests.{pick}
use Rattle.tape.specs.Depth.{most_bytes}
use Rattle.figures.specs.declared.Place.{Place}
use Rattle.figures.specs.declared.reading.Taken.{Taken}
use Rattle.figures.specs.Next.{Next}
use Rattle.figures.specs.Next.{Read, Write, Stop}
use Rattle.figures.specs.declared.Inscribed.{Inscribed}
use Rattle.figures.specs.declared.Next as told
use Rattle.figures.specs.declared.Next.TheVariants as next
use Rattle.writer.specs.declared.Refusal.{Refusal}
use Rattle.writer.specs.Refusal.{refusal_number}
use Rattle.figures.specs.Reading.{Moved, Reader, Step, byte_of}
use Rattle.figures.specs.Whole.{last_code}

-- what inscribing makes: the reader, the bytes written, the place of the next byte at hand, and what comes next
pub record Inscribing : Type 0 where
  pub reader : Reader
  pub bytes : List ℕ
  pub from : ℕ
  pub next : Next

-- nothing is written before something else is done
abbrev pub first : Next → Reader → ℕ → Inscribing
first next r from = record { reader = r; bytes = []; from = from; next = next }

-- the bytes at hand are used up: more is read where the text may go on
unfoldable pub used_up : Bool → Place → Next
used_up more p = pick more Read (Stop (last_code p))

-- bytes written before what follows
abbrev pub wrote : List ℕ → Inscribing → Inscribing
wrote bytes q = record { reader = q.reader; bytes = bytes ++ q.bytes; from = q.from; next = q.next }

-- a byte, and where its line is not refused, what is made of those behind it
abbrev pub stepping : ℕ → (Reader → Inscribing) → Step → Inscribing
stepping from rest st = pick (eqb st.code 0) (wrote st.bytes (rest st.reader)) (first (Stop st.code) st.reader from)

-- what is made of the bytes from the place `from` on, each read if the output has room for the longest event
unfoldable pub inscribe_on : Bool → List ℕ → ℕ → ℕ → Reader → Inscribing
inscribe_on more [] from room r = first (used_up more r.place) r from
inscribe_on more (b ∷ s) from room r =
    pick (ltb room most_bytes) (first Write r from)
    (stepping from (inscribe_on more s (from + 1) (room - length (byte_of b room r).bytes)) (byte_of b room r))

unfoldable pub inscribe_of : List ℕ → Bool → ℕ → ℕ → Reader → Inscribing
inscribe_of bytes more from room r = inscribe_on more (drop from bytes) from room r

-- the number by which a line is refused, and 0 where it is not
abbrev pub code_of : Result (Unit {0}) Refusal → ℕ
code_of (Ok _) = 0
code_of (Err why) = refusal_number why

-- what the program is told, and the number of it
abbrev pub next_of : told.Next → Next
next_of next.Read = Read
next_of next.Write = Write
next_of (next.Stop how) = Stop (code_of how)

abbrev pub leaving : Place → ℕ → ℕ → told.Next → Inscribed
leaving p from at next = record { place = p; from = from; at = at; next = next }

-- a line's number is below this
abbrev pub lines : ℕ
lines = 18446744073709551616

-- what inscribing asks: places that fit
pub record CanInscribe (bytes : List ℕ) (from : ℕ) (p : Place) (out : List ℕ) (at : ℕ) : Type 0 where
  pub begun : from ≤ length bytes
  pub line_fits : p.line + length bytes < lines
  pub room : at ≤ length out

-- what inscribing leaves: exactly what it makes, with its bytes from the place `at` on
pub record InscribesTo (q : Inscribing) (out : List ℕ) (at : ℕ) (r : Inscribed) (numbers lent : List ℕ) : Type 0 where
  pub place : r.place ≡ q.reader.place
  pub numbers_are : numbers ≡ q.reader.numbers
  pub laid : lent ≡ sets out at q.bytes
  pub end : r.at ≡ at + length q.bytes
  pub from : r.from ≡ q.from
  pub next : next_of r.next ≡ q.next

-- what a byte leaves that writes nothing
pub record Keeps (m : Moved) (at : ℕ) (r : Taken) : Type 0 where
  pub place : r.place ≡ m.place
  pub same : r.at ≡ at
  pub code : code_of r.told ≡ m.code

-- what one byte asks, and what it leaves: exactly what it makes
pub record CanTake (p : Place) (out : List ℕ) (at : ℕ) : Type 0 where
  pub line_fits : p.line + 1 < lines
  pub room : at ≤ length out

pub record TakesTo (st : Step) (out : List ℕ) (at : ℕ) (r : Taken) (numbers lent : List ℕ) : Type 0 where
  pub place : r.place ≡ st.reader.place
  pub numbers_are : numbers ≡ st.reader.numbers
  pub laid : lent ≡ sets out at st.bytes
  pub end : r.at ≡ at + length st.bytes
  pub code : code_of r.told ≡ st.code
