-- The lookup of an order number: it rests for the tenant, has been given out and does not, or was never given.
use Rattle.std.specs.Prelude.{◌≡◌, ◌↔◌, Bool, ℕ, ◌≤◌, ◌<◌, ltb, Result, Ok, Err}
use Rattle.units.specs.Tests.{pick}
use Rattle.units.specs.Firsts.{first_to}
use Rattle.rows.specs.Rows.{is_order}
use Rattle.book.specs.declared.lookup.Lost.{Lost}
use Rattle.book.specs.declared.lookup.Lost.TheVariants.{GivenOut, NeverGiven}
use Rattle.book.specs.Book.{Book, size_at, owner_at, number_at}

-- the numbers of its answers, as cancels are turned down by them: 18 given out and not resting for this tenant, 22
-- never given; 0 where it rests
abbrev pub code_of : Result ℕ Lost → ℕ
code_of (Ok row) = 0
code_of (Err GivenOut) = 18
code_of (Err NeverGiven) = 22

-- The lookup, by the test that a row must pass: the first row that passes is where the number rests. Where none does, a
-- number below the next one has been given out, and any other never.
module _ (places : ℕ) (test : ℕ → Bool) (next number : ℕ) where
  abbrev row : ℕ
  row = first_to test places

  unfoldable pub found_by : Result ℕ Lost
  found_by = pick (ltb row places) (Ok row) (pick (ltb number next) (Err GivenOut) (Err NeverGiven))

-- the test of a tenant's lookup: row i is the resting order of that number, and that tenant's
abbrev pub order_at : Book → ℕ → ℕ → ℕ → Bool
order_at b tenant number i = is_order tenant number (owner_at b i) (number_at b i) (size_at b i)

unfoldable pub found : Book → ℕ → ℕ → ℕ → Result ℕ Lost
found b next tenant number = found_by b.places (order_at b tenant number) next number

-- ---- in words of rows

-- row i is the resting order of that number, and that tenant's
pub record RestsAs (b : Book) (t number i : ℕ) : Type 0 where
  pub row : i < b.places
  pub rests : 0 < size_at b i
  pub tenant : owner_at b i ≡ t
  pub numbered : number_at b i ≡ number

-- no row is such
abbrev pub NoRow : (ℕ → Type 0) → Type 0
NoRow Row = (i : ℕ) → Row i → ⊥

-- Each answer exactly in its case, by its number, where `Row i` tells that row i is the order looked for; and a row
-- named is the first such.
pub record FoundSays (Row : ℕ → Type 0) (next number : ℕ) (f : Result ℕ Lost) : Type 0 where
  pub rests : (code_of f ≡ 0) ↔ ((i : ℕ) × Row i)
  pub given_out : (code_of f ≡ 18) ↔ ((number < next) × NoRow Row)
  pub never_given : (code_of f ≡ 22) ↔ ((next ≤ number) × NoRow Row)
  pub there : (i : ℕ) → f ≡ Ok i → Row i
  pub first : (i j : ℕ) → f ≡ Ok i → Row j → i ≤ j
