-- Laws of what rests, and of the best prices.
use Rattle.std.specs.Prelude.{◌≡◌, ℕ, ◌≤◌, ◌<◌, length}
use native.Mathlib.Omega.{arith}
use Rattle.std.proofs.Math.Seq.{set_out}
use Rattle.std.proofs.Common.{eq-eqb, lt-ltb}
use Rattle.units.specs.Leasts.{least_most, greatest_has}
use Rattle.rows.specs.Rows.{rows, no_price, buy_price, sell_price}
use Rattle.rows.specs.Passes.{highest_buy, lowest_sell}
use Rattle.book.specs.Book.{Book, side_at, price_at, size_at, best_bid, best_sell, first_free, rested_at, rested, freed}
use Rattle.book.specs.Fit.{Whole}

-- an order stored at the first free row
pub rested_there : (b : Book) (row : ℕ) → row ≡ first_free b → (side price size owner number : ℕ) → rested_at b row side price size owner number ≡ rested b side price size owner number
unfolding rested
rested_there b row e side price size owner number = rw e

module _ (b : Book) (whole : Whole b) where
  -- a full book takes nothing
  pub rested_full : (row : ℕ) → row ≡ first_free b → rows ≤ row → (side price size owner number : ℕ) → b ≡ rested b side price size owner number
  unfolding rested
  rested_full row e h side price size owner number = rw (
    set_out b.sides (first_free b) side (omega (arith, whole.sides_long)),
    set_out b.prices (first_free b) price (omega (arith, whole.prices_long)),
    set_out b.sizes (first_free b) size (omega (arith, whole.sizes_long)),
    set_out b.owners (first_free b) owner (omega (arith, whole.owners_long)),
    set_out b.numbers (first_free b) number (omega (arith, whole.numbers_long)),
  )

-- there is no row past the last to free
pub freed_past : (b : Book) (row : ℕ) → length b.sizes ≡ rows → rows ≤ row → b ≡ freed b row
unfolding freed
freed_past b row long h = rw (set_out b.sizes row 0 (omega arith))

-- ---- the best prices

buy_price_is : (side price size : ℕ) → side ≡ 1 → 0 < size → buy_price side price size ≡ price
unfolding buy_price
buy_price_is side price size e x = simp (eq-eqb side 1 e, lt-ltb 0 size x)

sell_price_is : (side price size : ℕ) → side ≡ 2 → 0 < size → sell_price side price size ≡ price
unfolding sell_price
sell_price_is side price size e x = simp (eq-eqb side 2 e, lt-ltb 0 size x)

module _ (b : Book) (i : ℕ) (p : i < b.places) (x : 0 < size_at b i) where
  -- no resting buy is above the best bid
  pub buy_most : side_at b i ≡ 1 → price_at b i ≤ best_bid b
  unfolding highest_buy
  buy_most e = omega (
    arith,
    greatest_has (λ j. buy_price (side_at b j) (price_at b j) (size_at b j)) b.places i p,
    buy_price_is (side_at b i) (price_at b i) (size_at b i) e x,
  )

  -- no resting sell is below the lowest
  pub sell_least : side_at b i ≡ 2 → best_sell b ≤ price_at b i
  unfolding lowest_sell
  sell_least e = omega (
    arith,
    least_most no_price (λ j. sell_price (side_at b j) (price_at b j) (size_at b j)) b.places i p,
    sell_price_is (side_at b i) (price_at b i) (size_at b i) e x,
  )
