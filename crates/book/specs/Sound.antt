-- What every reached book has.
use Rattle.std.specs.Prelude.{◌≡◌, ℕ, ◌≤◌, ◌<◌, length}
use Rattle.units.specs.Units.{tenants}
use Rattle.units.specs.Sums.{sum_to}
use Rattle.rows.specs.Rows.{rows, rows_a_tenant, highest, largest}
use Rattle.book.specs.Book.{Book, side_at, price_at, size_at, owner_at, number_at, resting_of}

-- a row that rests is a buy or a sell at a price of 1 to 1,000,000, a tenant's, with a number below the next
pub record SoundRow (b : Book) (next i : ℕ) : Type 0 where
  pub side_least : 1 ≤ side_at b i
  pub side_most : side_at b i ≤ 2
  pub price_least : 1 ≤ price_at b i
  pub price_most : price_at b i ≤ highest
  pub owner : owner_at b i < tenants
  pub number_least : 1 ≤ number_at b i
  pub number_most : number_at b i < next

pub record SoundBook (b : Book) (next : ℕ) : Type 0 where
  pub places : b.places ≡ rows
  pub sides_long : length b.sides ≡ rows
  pub prices_long : length b.prices ≡ rows
  pub sizes_long : length b.sizes ≡ rows
  pub owners_long : length b.owners ≡ rows
  pub numbers_long : length b.numbers ≡ rows
  -- no row holds more than an order may
  pub size_most : (i : ℕ) → i < rows → size_at b i ≤ largest
  pub row : (i : ℕ) → i < rows → 0 < size_at b i → SoundRow b next i
  -- live numbers are distinct
  pub apart : (i j : ℕ) → i < rows → j < rows → 0 < size_at b i → 0 < size_at b j → number_at b i ≡ number_at b j → i ≡ j
  -- at most 24 rows a tenant
  pub room : (t : ℕ) → t < tenants → resting_of b t ≤ rows_a_tenant

-- all contracts resting
abbrev pub resting : Book → ℕ
resting b = sum_to (size_at b) b.places

-- what rests on one side is below what rests on another
abbrev pub Below : ℕ → ℕ → Book → Type 0
Below buys sells b =
    (i j : ℕ) → i < rows → j < rows → 0 < size_at b i → 0 < size_at b j → side_at b i ≡ buys → side_at b j ≡ sells → price_at b i < price_at b j

-- an open book is never locked or crossed: each resting buy is below each resting sell
abbrev pub Uncrossed : Book → Type 0
Uncrossed = Below 1 2
