-- The minimum amounts as a table of seven rows, searched from the first; and the amounts at both ends of each row.
use Rattle.std.specs.Prelude.{◌≡◌, refl, cond, List, [], ◌∷◌, map, ℕ, ◌+◌, ◌≤◌, ◌<◌, leb, length, get_or, drop}
use Rattle.std.proofs.Common.{add-one, arith, le-leb, drop-cons}
use Rattle.std.proofs.lemmas.Bool.{lt-leb}
use Rattle.std.proofs.Math.Dec.{leb-suc-suc}
use Rattle.units.specs.Tests.{order, less, equal, more}
use Rattle.units.specs.Units.{cents, most32}
use Rattle.price.specs.Amounts.{minimum_amount}
use Rattle.price.specs.declared.amounts.Row.{Row}

abbrev pub row : ℕ → ℕ → Row
row ceiling amount = record { ceiling = cents ceiling; amount = cents amount }

-- the table, with the last row's ceiling the largest number of 32 bits
abbrev pub rows : List Row
rows = row 199 25 ∷ row 500 40 ∷ row 1000 50 ∷ row 2000 80 ∷ row 5000 100 ∷ row 10000 150 ∷ row most32 200 ∷ []

-- the amount of the first row whose ceiling is not below the NBB
abbrev pub lookup : List Row → ℕ → ℕ
lookup [] nbb = 0
lookup (r ∷ rs) nbb = cond (leb nbb r.ceiling.0) r.amount.0 (lookup rs nbb)

module _ (rs : List Row) (i nbb : ℕ) (d : Row) (h : i < length rs) where
  pub lookup_found : nbb ≤ (get_or rs i d).ceiling.0 → lookup (drop i rs) nbb ≡ (get_or rs i d).amount.0
  lookup_found le = rw (drop-cons rs i d h, le-leb nbb (get_or rs i d).ceiling.0 le)

  pub lookup_passed : (get_or rs i d).ceiling.0 < nbb → lookup (drop i rs) nbb ≡ lookup (drop (i + 1) rs) nbb
  lookup_passed lt = rw (drop-cons rs i d h, lt-leb nbb (get_or rs i d).ceiling.0 lt, add-one)

-- for every NBB of 32 bits the minimum amount is what the table gives
pub lookup_minimum : (nbb : ℕ) → nbb ≤ most32 → minimum_amount nbb ≡ lookup rows nbb
unfolding minimum_amount
lookup_minimum nbb h = rw (le-leb nbb most32 h, minimum_amount, leb-suc-suc nbb 199)

-- no such NBB is above the last ceiling
pub never_past : (i nbb : ℕ) (d : Row) → i < 7 → nbb ≤ most32 → (get_or rows i d).ceiling.0 < nbb → i + 1 < 7
never_past i nbb d h most lt = elim (order i 6) [
  | less l ↦ omega arith
  | equal e ↦ absurd (let l : most32 < nbb = rw e at lt in omega arith)
  | more l ↦ absurd (omega arith)
]

-- the amounts at both ends of each row of the paper
pub amounts_at_ends :
    map minimum_amount (0 ∷ 199 ∷ 200 ∷ 500 ∷ 501 ∷ 1000 ∷ 1001 ∷ 2000 ∷ 2001 ∷ 5000 ∷ 5001 ∷ 10000 ∷ 10001 ∷ most32 ∷ []) ≡
    25 ∷ 25 ∷ 40 ∷ 40 ∷ 50 ∷ 50 ∷ 80 ∷ 80 ∷ 100 ∷ 100 ∷ 150 ∷ 150 ∷ 200 ∷ 200 ∷ []
unfolding minimum_amount
amounts_at_ends = refl
