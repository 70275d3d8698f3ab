-- The program on a file that gives its bytes in parts: between two system calls it inscribes, and each call is the one
-- that comes next.
use Rattle.std.specs.Prelude.{◌≡◌, Bool, true, false, List, [], ◌∷◌, ◌++◌, ℕ, ◌-◌, length, drop}
use Rattle.figures.specs.Next.{Read, Write, Stop}
use Rattle.figures.specs.Reading.{Reader}
use Rattle.figures.specs.Whole.{Inscription, ◌before◌, ending_of, at_first}
use Rattle.figures.specs.Inscribing.{Inscribing, inscribe_of}

-- the bytes of the output
abbrev pub output_long : ℕ
output_long = 65536

-- how the program stands before it inscribes: the reader, the bytes at hand, the place of the next among them, whether
-- the text may go on, and what is written and not written out yet
pub record Standing : Type 0 where
  pub reader : Reader
  pub bytes : List ℕ
  pub from : ℕ
  pub more : Bool
  pub written : List ℕ

-- it starts with nothing at hand
abbrev pub at_start : Standing
at_start = record { reader = at_first; bytes = []; from = 0; more = true; written = [] }

-- what is made from there
abbrev pub made_from : Standing → Inscribing
made_from st = inscribe_of st.bytes st.more st.from (output_long - length st.written) st.reader

-- and how the program stands after it
abbrev pub made : Standing → Standing
made st = record {
  reader = (made_from st).reader;
  bytes = st.bytes;
  from = (made_from st).from;
  more = st.more;
  written = st.written ++ (made_from st).bytes;
}

-- a read moves the bytes that are not used yet to the front and puts a part of the text behind them
abbrev pub filled : List ℕ → Bool → Standing → Standing
filled part more st = record { reader = st.reader; bytes = drop st.from st.bytes ++ part; from = 0; more = more; written = st.written }

-- what is written is written out
abbrev pub emptied : Standing → Standing
emptied st = record { reader = st.reader; bytes = st.bytes; from = st.from; more = st.more; written = [] }

-- a run from where the program stands to where it stops: the parts that the file has left to give, of any length, and
-- all that is written out, with the ending that is told
pub data Run : Standing → List (List ℕ) → Inscription → Type 0 where
  -- a read gives the next part, which has no bytes where a signal interrupts it
  reads :
      {st : Standing} {part : List ℕ} {parts : List (List ℕ)} {i : Inscription} → (made_from st).next ≡ Read →
      Run (filled part true (made st)) parts i → Run st (part ∷ parts) i
  -- a read meets the end of the file
  meets_end : {st : Standing} {i : Inscription} → (made_from st).next ≡ Read → Run (filled [] false (made st)) [] i → Run st [] i
  writes :
      {st : Standing} {parts : List (List ℕ)} {i : Inscription} → (made_from st).next ≡ Write →
      Run (emptied (made st)) parts i → Run st parts ((made st).written before i)
  -- the text ended or a line was refused, and what is written is written out
  stops :
      {st : Standing} {parts : List (List ℕ)} {code : ℕ} → (made_from st).next ≡ Stop code →
      Run st parts (record { bytes = (made st).written; ending = ending_of code (made_from st).reader.place.line })
