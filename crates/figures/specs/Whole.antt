-- A whole text: the tape that is written of it, and how it ends.
use Rattle.std.specs.Prelude.{Bool, List, [], ◌∷◌, ◌++◌, ℕ, ltb, eqb, replicate}
use Rattle.units.specs.Tests.{◌or◌, pick}
use Rattle.tape.specs.Depth.{most_numbers, most_bytes}
use Rattle.figures.specs.declared.Place.{Place}
use Rattle.figures.specs.Reading.{not_one, line_start, Reader, Step, byte_of}

-- a text ends between two lines, or is refused by a number at a line, the first being line 1
pub data Ending : Type 0 where
  ended : Ending
  refused : ℕ → ℕ → Ending

-- what a text gives: the bytes of a tape, and its ending
pub record Inscription : Type 0 where
  pub bytes : List ℕ
  pub ending : Ending

-- nothing more is written
abbrev pub nothing_but : Ending → Inscription
nothing_but ending = record { bytes = []; ending = ending }

-- bytes before others
infixr 20 ◌before◌
abbrev pub ◌before◌ : List ℕ → Inscription → Inscription
bytes before i = record { bytes = bytes ++ i.bytes; ending = i.ending }

-- a line has begun
unfoldable pub in_line : Place → Bool
in_line p = p.begun or ltb 0 p.count

-- a text that ends inside a line is refused there
unfoldable pub last_code : Place → ℕ
last_code p = pick (in_line p) not_one 0

-- a stop by 0 is the end of a text, and one by another number refuses its line
abbrev pub ending_of : ℕ → ℕ → Ending
ending_of code line = pick (eqb code 0) ended (refused code line)

-- a step, and where its line is not refused, what is written of the bytes behind it
abbrev pub stepped : (Reader → Inscription) → Step → Inscription
stepped rest st = pick (eqb st.code 0) (st.bytes before rest st.reader) (nothing_but (refused st.code st.reader.place.line))

-- what is written of the bytes that are left, byte by byte; there is always room for the longest event
unfoldable pub inscribed_from : Reader → List ℕ → Inscription
inscribed_from r [] = nothing_but (ending_of (last_code r.place) r.place.line)
inscribed_from r (b ∷ s) = stepped (λ next. inscribed_from next s) (byte_of b most_bytes r)

-- the start of a text, with memory for the numbers of the longest event
abbrev pub at_first : Reader
at_first = record { place = line_start 1; numbers = replicate most_numbers 0 }

-- what is written of a whole text
unfoldable pub inscribed : List ℕ → Inscription
inscribed s = inscribed_from at_first s
