-- A tape in figures: a line for each event.
use Rattle.std.specs.Prelude.{List, [], ◌∷◌, ◌++◌, ℕ}
use Rattle.units.specs.Decimal.{decimal}

-- what stands between numbers, and at the end of a line
abbrev pub space : ℕ
space = 32

abbrev pub newline : ℕ
newline = 10

-- numbers in decimal, with one space between
unfoldable pub figures_of : List ℕ → List ℕ
figures_of [] = []
figures_of (v ∷ []) = decimal v
figures_of (v ∷ w ∷ vs) = decimal v ++ (space ∷ figures_of (w ∷ vs))

-- a line: the numbers of an event, and the newline
unfoldable pub line_of : List ℕ → List ℕ
line_of vs = figures_of vs ++ (newline ∷ [])

-- a text: the lines of events, one behind the other
unfoldable pub text_of : List (List ℕ) → List ℕ
text_of [] = []
text_of (vs ∷ all) = line_of vs ++ text_of all
