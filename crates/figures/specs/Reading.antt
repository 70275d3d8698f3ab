-- A text read byte by byte: what one byte makes of the line that it stands in.
use Rattle.std.specs.Prelude.{Bool, true, false, Option, Some, None, List, [], ℕ, ◌+◌, ◌-◌, ◌*◌, ltb, eqb, length, take, set}
use Rattle.units.specs.Tests.{◌and◌, ◌or◌, pick}
use Rattle.units.specs.Units.{most32}
use Rattle.tape.specs.Leads.{encode_all}
use Rattle.writer.specs.Write.{write_refusal}
use Rattle.figures.specs.declared.Place.{Place}
use Rattle.figures.specs.Figures.{space, newline}

-- a line that is not the figures of one event is refused by this
abbrev pub not_one : ℕ
not_one = 41

-- the digits 0 and 9
abbrev pub zero_digit : ℕ
zero_digit = 48

abbrev pub nine_digit : ℕ
nine_digit = 57

-- the start of a line
abbrev pub line_start : ℕ → Place
line_start line = record { line = line; count = 0; begun = false; value = 0 }

-- the place after a byte, and 0, or the number by which the byte's line is refused
pub record Moved : Type 0 where
  pub place : Place
  pub code : ℕ

-- the line goes on at a place, or is refused there
abbrev pub goes_to : Place → Moved
goes_to p = record { place = p; code = 0 }

abbrev pub refused_at : Place → Moved
refused_at p = record { place = p; code = not_one }

-- the place where it goes on, or none where it is refused at a place
abbrev pub moved_of : Place → Option Place → Moved
moved_of p (Some next) = goes_to next
moved_of p None = refused_at p

-- a number with one digit more
abbrev pub with_digit : ℕ → Place → ℕ
with_digit b p = 10 * p.value + (b - zero_digit)

-- a byte that is no digit, or stands behind a 0 in front
unfoldable pub misplaced : ℕ → Place → Bool
misplaced b p = (ltb b zero_digit or ltb nine_digit b) or (p.begun and eqb p.value 0)

-- a digit goes on with a number, or begins one; a number is at most 4,294,967,295
unfoldable pub digit_of : ℕ → Place → Moved
digit_of b p =
    pick (misplaced b p) (refused_at p)
    (pick (ltb most32 (with_digit b p)) (refused_at p)
    (goes_to record { line = p.line; count = p.count; begun = true; value = with_digit b p }))

-- a number can end if it has begun and there is room for it beside those that ended before it
unfoldable pub can_end : Place → ℕ → Bool
can_end p room = p.begun and ltb p.count room

-- the place behind it
abbrev pub ended_place : Place → Place
ended_place p = record { line = p.line; count = p.count + 1; begun = false; value = 0 }

-- the number ends, and joins the numbers of its line
unfoldable pub end_of : Place → ℕ → Moved
end_of p room = pick (can_end p room) (goes_to (ended_place p)) (refused_at p)

unfoldable pub numbers_after : Place → List ℕ → List ℕ
numbers_after p numbers = pick (can_end p (length numbers)) (set numbers p.count p.value) numbers

-- who reads a text: the place, and the memory whose first numbers are those of the line that have ended
pub record Reader : Type 0 where
  pub place : Place
  pub numbers : List ℕ

abbrev pub reader_of : Place → List ℕ → Reader
reader_of p numbers = record { place = p; numbers = numbers }

-- what a byte leaves: the reader after it, the bytes of the event that it ends, and 0, or the number by which its line
-- is refused
pub record Step : Type 0 where
  pub reader : Reader
  pub bytes : List ℕ
  pub code : ℕ

-- nothing is written
abbrev pub silent : List ℕ → Moved → Step
silent numbers m = record { reader = record { place = m.place; numbers = numbers }; bytes = []; code = m.code }

-- the numbers of the line that have ended
abbrev pub numbers_of : Reader → List ℕ
numbers_of r = take r.place.count r.numbers

-- the numbers of a line are written as an event, if they are one that the room takes
unfoldable pub writing : ℕ → Reader → Step
writing room r =
    pick (eqb (write_refusal (numbers_of r) room) 0)
    (record {
      reader = record { place = line_start (r.place.line + 1); numbers = r.numbers };
      bytes = encode_all (numbers_of r);
      code = 0;
    })
    (record { reader = r; bytes = []; code = write_refusal (numbers_of r) room })

-- a newline ends the last number of its line, and the line
unfoldable pub line_end : ℕ → Reader → Step
line_end room r =
    pick (can_end r.place (length r.numbers))
    (writing room (record { place = ended_place r.place; numbers = set r.numbers r.place.count r.place.value }))
    (silent r.numbers (refused_at r.place))

-- what a byte makes of a reader, with so much room for the bytes of an event
unfoldable pub byte_of : ℕ → ℕ → Reader → Step
byte_of b room r =
    pick (eqb b newline) (line_end room r)
    (pick (eqb b space) (silent (numbers_after r.place r.numbers) (end_of r.place (length r.numbers)))
    (silent r.numbers (digit_of b r.place)))
