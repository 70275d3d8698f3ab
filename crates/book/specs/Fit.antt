-- What the functions of this crate ask of the columns that they are lent; every sound book has it.
use Rattle.std.specs.Prelude.{◌≡◌, List, ℕ, ◌<◌, length}
use Rattle.units.specs.Places.{at}
use Rattle.rows.specs.Rows.{rows}
use Rattle.allocation.specs.Ranges.{Small, Priced, Numbered}
use Rattle.book.specs.Book.{Book}

-- the columns of a book have all their rows
pub record Whole (b : Book) : Type 0 where
  pub sides_long : length b.sides ≡ rows
  pub prices_long : length b.prices ≡ rows
  pub sizes_long : length b.sizes ≡ rows
  pub owners_long : length b.owners ≡ rows
  pub numbers_long : length b.numbers ≡ rows

-- no two resting rows have one number
abbrev pub Apart : List ℕ → List ℕ → Type 0
Apart sizes numbers = (i j : ℕ) → i < rows → j < rows → 0 < at sizes i → 0 < at sizes j → at numbers i ≡ at numbers j → i ≡ j

-- what a match rests on
pub record Fit (prices sizes numbers : List ℕ) : Type 0 where
  pub sizes_long : length sizes ≡ rows
  pub small : Small sizes
  pub priced : Priced prices sizes
  pub numbered : Numbered sizes numbers
  pub apart : Apart sizes numbers

-- the same of a book
abbrev pub FitBook : Book → Type 0
FitBook b = Fit b.prices b.sizes b.numbers
