-- Whole tapes as numbers: what a list of events, each given as its numbers, spells, and the events of a tape so given.
use Rattle.std.specs.Prelude.{List, [], ◌∷◌, ◌++◌, ℕ}
use Rattle.tape.specs.declared.Event.{Event}
use Rattle.tape.specs.Leads.{encode_all, Fit}
use Rattle.tape.specs.Spelling.{Spells, numbers_of}
use Rattle.tape.specs.Whole.{Sent, Whole}

-- numbers that are exactly one event: they make it (`Spells` says of each event which numbers do)
abbrev pub IsEvent : List ℕ → Type 0
IsEvent vs = (e : Event) × Spells vs e

-- an event of a tape, given as numbers that 32 bits hold
abbrev pub Writable : List ℕ → Type 0
Writable vs = Fit vs × IsEvent vs

-- each of a list of them
abbrev pub Events : List (List ℕ) → Type 0
Events [] = Unit {0}
Events (vs ∷ all) = Writable vs × Events all

-- the tape of events written one behind the other
unfoldable pub tape_of : List (List ℕ) → List ℕ
tape_of [] = []
tape_of (vs ∷ all) = encode_all vs ++ tape_of all

-- the numbers of an event that was read, as the tape has them
abbrev pub spells : Sent → List ℕ
spells x = numbers_of x.event x.numbers

abbrev pub all_spell : List Sent → List (List ℕ)
all_spell [] = []
all_spell (x ∷ xs) = spells x ∷ all_spell xs

-- the events of a tape, each as its numbers
abbrev pub events_of : Whole → List (List ℕ)
events_of w = all_spell w.events
