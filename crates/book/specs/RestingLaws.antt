-- All contracts resting: they fall by exactly what trades, and grow by what comes to rest.
use Rattle.std.specs.Prelude.{◌≡◌, List, ℕ, ◌+◌, ◌-◌, ◌≤◌, ◌<◌, set}
use Rattle.std.proofs.Common.{sym}
use native.Mathlib.Omega.{arith}
use Rattle.std.proofs.Math.Seq.{get_or-set_same, get_or-set_other}
use Rattle.units.specs.Sums.{sum_to, sum_most, sum_add, sum_changed}
use Rattle.units.specs.Places.{at, table, table_at}
use Rattle.rows.specs.Rows.{rows}
use Rattle.book.specs.Book.{Book, size_at, first_free, rested, with_sizes, freed}
use Rattle.book.specs.AllocationLaws.{Distinct}
use Rattle.book.specs.Trading.{reach, filled, traded, after_trade}
use Rattle.book.specs.TradingLaws.{traded_most, all_traded}
use Rattle.book.specs.Sound.{SoundBook, resting}
use Rattle.book.specs.SoundLaws.{free_less}
use Rattle.book.specs.RestLaws.{free_is}

-- where no row grows, no more rests
pub shrinks : (b : Book) (l : List ℕ) → ((i : ℕ) → i < b.places → at l i ≤ size_at b i) → resting (with_sizes b l) ≤ resting b
shrinks b l h = sum_most b.places h

-- where each row gives f of what it holds, the book gives all of f
pub gives : (b : Book) (l : List ℕ) (f : ℕ → ℕ) → ((i : ℕ) → i < b.places → at l i ≡ size_at b i - f i) → ((i : ℕ) → f i ≤ size_at b i)
    → resting (with_sizes b l) + sum_to f b.places ≡ resting b
gives b l f e h = sym (sum_add (at l) f b.places (λ i p. omega (arith, e i p, h i)))

-- a trade takes what is filled
pub trade_takes : (b : Book) (side bound q allocation : ℕ) → Distinct (reach b side bound)
    → resting (after_trade b side bound q allocation) + filled b side bound q ≡ resting b
unfolding after_trade
trade_takes b side bound q allocation d = omega (
  arith,
  gives b (table (λ i. size_at b i - traded b side bound q allocation i) b.places) (traded b side bound q allocation)
      (λ i p. table_at _ b.places i p) (traded_most b side bound q allocation),
  all_traded b side bound q allocation d,
)

module _ {b : Book} {next : ℕ} (sound : SoundBook b next) where
  -- an order that rests adds its size
  pub rest_adds : first_free b < rows → (side price size owner number : ℕ) → resting (rested b side price size owner number) ≡ resting b + size
  unfolding rested
  rest_adds free side price size owner number =
      let row = first_free b in
      let changed = sum_changed {f = at (set b.sizes row size)} {g = size_at b} b.places row (omega (arith, sound.places))
      (λ j h n. get_or-set_other b.sizes row j size 0 n) in
      let was : size_at b row ≡ 0 = free_is b (omega (arith, sound.places)) in
      let is : at (set b.sizes row size) row ≡ size = get_or-set_same b.sizes row size 0 (omega (arith, sound.sizes_long)) in
      omega arith

  -- a cancel adds nothing
  pub free_takes : (row : ℕ) → resting (freed b row) ≤ resting b
  unfolding freed
  free_takes row = shrinks b (set b.sizes row 0) (λ i p. free_less sound row i (omega (arith, sound.places)))
