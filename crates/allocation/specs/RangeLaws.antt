-- No key and no number is past the last and no size is too large, among the rows that an order may trade with.
use Rattle.std.specs.Prelude.{◌≡◌, refl, List, Bool, true, false, cond, ◌&&◌, ℕ, ◌-◌, ◌≤◌, ◌<◌, eqb}
use Rattle.std.proofs.Common.{arith}
use Rattle.units.specs.Picked.{keep, keep_most, same, same_found}
use Rattle.units.specs.Places.{at}
use Rattle.rows.specs.Rows.{rows, highest, largest, no_price, no_number, selling, key_of, within, open_size}
use Rattle.levels.specs.Levels.{keys_on, opens_on}
use Rattle.allocation.specs.Ranges.{Small, Priced, Numbered}

-- no more of a row may be traded than it holds
pub open_most : (s bound side price size : ℕ) → open_size s bound side price size ≤ size
unfolding open_size
open_most s bound side price size = keep_most (eqb side s && within s price bound) size

-- where some of it may be, all of it may
pub open_whole : (s bound side price size : ℕ) → 0 < open_size s bound side price size → size ≡ open_size s bound side price size
unfolding open_size
open_whole s bound side price size = go (eqb side s && within s price bound)
  where
    go : (test : Bool) → 0 < keep test size → size ≡ keep test size
    go true x = refl
    go false x = absurd (omega arith)

key_most : (side price : ℕ) → price ≤ highest → key_of side price ≤ highest
unfolding key_of
key_most side price h = by (selling side)
  where
    by : (sells : Bool) → cond sells price (highest - price) ≤ highest
    by true = h
    by false = omega arith

module _ (s bound : ℕ) (sides prices sizes : List ℕ) where
  abbrev opens : ℕ → ℕ
  opens = opens_on s bound (at sides) (at prices) (at sizes)

  holds : (i : ℕ) → 0 < opens i → 0 < at sizes i
  holds i x = omega (arith, open_most s bound (at sides i) (at prices i) (at sizes i))

  pub opens_small : Small sizes → (i : ℕ) → i < rows → opens i ≤ largest
  opens_small h i p = omega (arith, open_most s bound (at sides i) (at prices i) (at sizes i), h i p)

  pub keys_below : Priced prices sizes → (i : ℕ) → i < rows → 0 < opens i → keys_on s (at prices) i < no_price
  keys_below h i p x = omega (arith, key_most s (at prices i) (h i p (holds i x)))

  pub numbers_below : (numbers : List ℕ) (c : ℕ) → Numbered sizes numbers
      → (i : ℕ) → i < rows → 0 < same (keys_on s (at prices)) c opens i → at numbers i < no_number
  numbers_below numbers c h i p x = h i p (holds i (same_found (keys_on s (at prices)) c opens i x).1)
