-- What is promised of a tape in figures: which text gives which tape, and that a file's parts do not matter.
use Rattle.std.specs.Prelude.{◌≡◌, ℕ, ◌+◌, ◌<◌, length}
use mathlib.Core.List.{List, ◌++◌, flatten}
use Rattle.writer.specs.Tapes.{Writable, Events, tape_of}
use Rattle.figures.specs.Figures.{line_of, text_of}
use Rattle.figures.specs.Reading.{not_one}
use Rattle.figures.specs.Whole.{ended, refused, Inscription, inscribed}
use Rattle.figures.specs.Running.{at_start, Run}

-- no line of an event stands at the front
abbrev pub NoLine : List ℕ → Type 0
NoLine rest = (vs more : List ℕ) → Writable vs → rest ≡ line_of vs ++ more → ⊥

-- a text that is the figures of events, and nothing else
pub record OnlyFigures (s : List ℕ) : Type 0 where
  pub all : List (List ℕ)
  pub events : Events all
  pub text : s ≡ text_of all
  pub tape : (inscribed s).bytes ≡ tape_of all

-- a text whose line l is the first that is not the figures of one event
pub record RefusedLine (s : List ℕ) (code l : ℕ) : Type 0 where
  pub all : List (List ℕ)
  pub rest : List ℕ
  pub events : Events all
  pub text : s ≡ text_of all ++ rest
  pub tape : (inscribed s).bytes ≡ tape_of all
  pub by : code ≡ not_one
  pub line : l ≡ 1 + length all
  pub some : 0 < length rest
  pub none : NoLine rest

pub record TapeInFigures : Type 0 where
  -- the figures of events give the tape of the events
  pub writes_figures : (all : List (List ℕ)) → Events all → inscribed (text_of all) ≡ record { bytes = tape_of all; ending = ended }
  -- and no other text ends between two lines
  pub only_figures : (s : List ℕ) → (inscribed s).ending ≡ ended → OnlyFigures s
  -- any other is refused at its first line that is not the figures of one event, and the events before it are written
  pub refused_line : (s : List ℕ) (code l : ℕ) → (inscribed s).ending ≡ refused code l → RefusedLine s code l
  -- whatever the parts in which a file gives a text, a run of the program writes and tells what the whole text gives
  pub writes_whole : (parts : List (List ℕ)) (i : Inscription) → Run at_start parts i → i ≡ inscribed (flatten parts)
  -- and there is a run
  pub runs_whole : (parts : List (List ℕ)) → Run at_start parts (inscribed (flatten parts))
