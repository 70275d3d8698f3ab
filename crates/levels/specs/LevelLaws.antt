-- Laws of what is looked for and counted of one row.
use Rattle.std.specs.Prelude.{◌≡◌, refl, Bool, true, false, ℕ, ◌*◌, ◌/◌, ◌^◌, ◌≤◌, ◌<◌}
use Rattle.std.proofs.Common.{le_refl, mul-le-mul_left, mul-le-mul_right, le_of_lt, lt_of_le_of_lt, lit<}
use Rattle.std.proofs.Math.Nat.{div-le_of_le-mul}
use Rattle.std.proofs.Math.Decide.{dec_le}
use native.Mathlib.Omega.{arith}
use borrow.Author.Tests.{lt-ltb, le-ltb, le-leb, lt-leb}
use Rattle.units.specs.Units.{most32}
use Rattle.units.specs.Tests.{order, less, equal, more}
use Rattle.units.specs.Picked.{keep}
use Rattle.levels.specs.Levels.{candidate, whole_of}

module _ (top floor k size : ℕ) where
  pub candidate_free : size ≡ 0 → candidate top floor k size ≡ top
  unfolding candidate
  candidate_free h = simp h

  pub candidate_low : k < floor → candidate top floor k size ≡ top
  unfolding candidate
  candidate_low h = elim (order 0 size) [
    | less x ↦ simp (lt-ltb 0 size x, lt-leb floor k h)
    | equal x ↦ simp (le-ltb 0 size (omega arith))
    | more x ↦ omega arith
  ]

  pub candidate_is : 0 < size → floor ≤ k → candidate top floor k size ≡ k
  unfolding candidate
  candidate_is x h = simp (lt-ltb 0 size x, le-leb floor k h)

-- a part of a whole takes at most that part of the size
pub share_most : (left size total : ℕ) → left < total → left * size / total ≤ size
share_most left size total h = div-le_of_le-mul total (mul-le-mul_right size (le_of_lt h))

pub product_fits : (a b : ℕ) → a ≤ most32 → b ≤ most32 → a * b < 2 ^ 64
product_fits a b p q = lt_of_le_of_lt (mul-le-mul_left a q) (lt_of_le_of_lt (mul-le-mul_right most32 p) (lit< tt))

pub whole_most : (left size total : ℕ) → whole_of left size total ≤ size
unfolding whole_of
whole_most left size total = elim (dec_le total left) [
  | yes q ↦ simp (le-leb total left q) (le_refl size)
  | no q ↦ simp (lt-leb total left (omega arith)) (share_most left size total (omega arith))
]

-- of nothing there is no share
pub whole_none : (left size total : ℕ) → size ≤ 0 → 0 ≡ whole_of left size total
whole_none left size total h = omega (arith, whole_most left size total)

-- what is kept of a share is the share of what is kept
pub whole_kept : (test : Bool) (left size total : ℕ) → keep test (whole_of left size total) ≡ whole_of left (keep test size) total
whole_kept true left size total = refl
whole_kept false left size total = whole_none left 0 total (omega arith)
