-- What the search for the edge asks of the columns.
use Rattle.std.specs.Prelude.{List, ℕ, ◌≤◌, ◌<◌}
use Rattle.units.specs.Places.{at}
use Rattle.rows.specs.Rows.{rows, highest, largest, no_number}

-- no row holds more than an order may
abbrev pub Small : List ℕ → Type 0
Small sizes = (i : ℕ) → i < rows → at sizes i ≤ largest

-- no resting row is above the highest price
abbrev pub Priced : List ℕ → List ℕ → Type 0
Priced prices sizes = (i : ℕ) → i < rows → 0 < at sizes i → at prices i ≤ highest

-- no resting row is above the last order number
abbrev pub Numbered : List ℕ → List ℕ → Type 0
Numbered sizes numbers = (i : ℕ) → i < rows → 0 < at sizes i → at numbers i < no_number

-- of the first n gathered, no key at which something is held is from the top on
abbrev pub KeysBelow : ℕ → ℕ → List ℕ → List ℕ → Type 0
KeysBelow top n keys held = (j : ℕ) → j < n → 0 < at held j → at keys j < top
