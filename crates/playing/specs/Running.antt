-- The program on a file that gives its bytes in parts: between two system calls it plays, and each call is the one that
-- the play says comes next.
use Rattle.std.specs.Prelude.{◌≡◌, Bool, true, false, List, [], ◌∷◌, ◌++◌, ℕ, ◌+◌, length, drop, replicate}
use Rattle.entry.specs.Numbers.{bulk_numbers}
use Rattle.session.specs.Market.{Market}
use Rattle.replay.specs.Output.{new_market}
use Rattle.playing.specs.Next.{Read, Write, Stop}
use Rattle.playing.specs.Playing.{Play, play_of}

-- how the program stands before a play: the market, what is lent for the numbers of entries, the bytes at hand, the
-- place of the next event among them, the place of the first of them on the tape, whether the tape may go on, and what
-- is printed and not written out yet
pub record Standing : Type 0 where
  pub market : Market
  pub given : List ℕ
  pub bytes : List ℕ
  pub from : ℕ
  pub base : ℕ
  pub more : Bool
  pub printed : List ℕ

-- it starts with a new market and nothing at hand
abbrev pub at_start : Standing
at_start = record { market = new_market; given = replicate bulk_numbers 0; bytes = []; from = 0; base = 0; more = true; printed = [] }

-- the play from there
abbrev pub play_from : Standing → Play
play_from st = play_of st.bytes st.more st.base st.market st.given st.from (length st.printed)

-- and how the program stands after it
abbrev pub played : Standing → Standing
played st = record {
  market = (play_from st).market;
  given = (play_from st).given;
  bytes = st.bytes;
  from = (play_from st).from;
  base = st.base;
  more = st.more;
  printed = st.printed ++ (play_from st).bytes;
}

-- a read moves the bytes that are not used yet to the front and puts a part of the tape behind them
abbrev pub filled : List ℕ → Bool → Standing → Standing
filled part more st = record {
  market = st.market;
  given = st.given;
  bytes = drop st.from st.bytes ++ part;
  from = 0;
  base = st.base + st.from;
  more = more;
  printed = st.printed;
}

-- what is printed is written out
abbrev pub emptied : Standing → Standing
emptied st = record {
  market = st.market;
  given = st.given;
  bytes = st.bytes;
  from = st.from;
  base = st.base;
  more = st.more;
  printed = [];
}

-- a run from where the program stands to where it stops: the parts that the file has left to give, of any length, and
-- all that is written out
pub data Run : Standing → List (List ℕ) → List ℕ → Type 0 where
  -- a read gives the next part, which has no bytes where a signal interrupts it
  reads :
      {st : Standing} {part : List ℕ} {parts : List (List ℕ)} {written : List ℕ} → (play_from st).next ≡ Read →
      Run (filled part true (played st)) parts written → Run st (part ∷ parts) written
  -- a read meets the end of the file
  meets_end :
      {st : Standing} {written : List ℕ} → (play_from st).next ≡ Read → Run (filled [] false (played st)) [] written → Run st [] written
  writes :
      {st : Standing} {parts : List (List ℕ)} {written : List ℕ} → (play_from st).next ≡ Write →
      Run (emptied (played st)) parts written → Run st parts ((played st).printed ++ written)
  -- the tape ended or was refused, and what is printed is written out
  stops : {st : Standing} {parts : List (List ℕ)} {how : ℕ} → (play_from st).next ≡ Stop how → Run st parts (played st).printed
