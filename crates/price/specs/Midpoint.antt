-- The midpoint in the words of the paper, that the definition says just that, where it is as it was before the grid was
-- asked, and where there is none.
use mathlib.Core.Logic.Iff
use Rattle.std.specs.Prelude.{◌≡◌, refl, Some, ◌↔◌, Bool, true, false, cond, ◌&&◌, ℕ, ◌+◌, ◌*◌, ◌/◌, ◌≤◌, ◌<◌, ltb, eqb}
use Rattle.std.proofs.Common.{◌∙◌, arith, lt-ltb, ltb-true, ltb-false, eqb-true}
use Rattle.std.proofs.Math.Nat.{one-dvd}
use Rattle.std.proofs.Math.Decide.{dec_lt}
use Rattle.std.proofs.lemmas.Bool.{eqb-false}
use Rattle.units.specs.Units.{cents}
use Rattle.units.specs.Grid.{stepping, grid_of, lowest_of, highest_on}
use Rattle.units.specs.GridLaws.{StepDivides, on_says, highest_here, highest_says, some_price, lowest_is, lowest_bounds}
use Rattle.units.specs.declared.grid.Grid.{Grid}
use Rattle.price.specs.Price.{midpoint}

-- the midpoint: the highest grid price at or below (NBB + NBO)/2, the half not rounded, if both exist; 0 is no price
pub record Midpoint (g : Grid) (nbb nbo price : ℕ) : Type 0 where
  pub bid : 0 < nbb
  pub offer : 0 < nbo
  pub least : 1 ≤ price
  pub is_on_grid : StepDivides g price
  pub at_or_below : 2 * price ≤ nbb + nbo
  pub none_between : (r : ℕ) → StepDivides g r → 2 * r ≤ nbb + nbo → r ≤ price

midpoint_is : (g : Grid) (nbb nbo : ℕ) → 0 < nbb → 0 < nbo → midpoint nbb nbo g ≡ highest_on g ((nbb + nbo) / 2)
unfolding midpoint
midpoint_is g nbb nbo bid offer = rw (lt-ltb 0 nbb bid, lt-ltb 0 nbo offer) refl

-- the definition of the midpoint says just its words
pub midpoint_highest : (g : Grid) (nbb nbo price : ℕ) → 0 < price → (midpoint nbb nbo g ≡ price) ↔ Midpoint g nbb nbo price
unfolding midpoint
midpoint_highest g nbb nbo price some = go (ltb 0 nbb) (ltb 0 nbo) refl refl
  where
    go : (a b : Bool) → ltb 0 nbb ≡ a → ltb 0 nbo ≡ b → (cond (a && b) (highest_on g ((nbb + nbo) / 2)) 0 ≡ price) ↔ Midpoint g nbb nbo price
    go true true x y = let says = highest_says g ((nbb + nbo) / 2) price in (
      λ e. let h = says.0 e in record {
        bid = ltb-true 0 nbb x;
        offer = ltb-true 0 nbo y;
        least = some;
        is_on_grid = h.is_on_grid;
        at_or_below = omega (arith, h.most);
        none_between = λ r on below. h.none_between r on (omega arith);
      },
      λ m. says.1 (record {
        is_on_grid = m.is_on_grid;
        most = omega (arith, m.at_or_below);
        none_between = λ r on below. m.none_between r on (omega arith);
      }),
    )
    go true false x y = (λ e. absurd (omega arith), λ m. absurd (omega (arith, m.offer, ltb-false 0 nbo y)))
    go false b x y = (λ e. absurd (omega arith), λ m. absurd (omega (arith, m.bid, ltb-false 0 nbb x)))

-- as before, (NBB + NBO)/2 rounded down to a cent, wherever that is on the grid, so in grid 1 throughout
pub midpoint_as_before : (g : Grid) (nbb nbo : ℕ) → 0 < nbb → 0 < nbo → StepDivides g ((nbb + nbo) / 2) → midpoint nbb nbo g ≡ (nbb + nbo) / 2
midpoint_as_before g nbb nbo bid offer on =
    midpoint_is g nbb nbo bid offer ∙ highest_here g ((nbb + nbo) / 2) (omega arith) ((on_says g (cents ((nbb + nbo) / 2))).1 on)

pub grid_one_as_before : (nbb nbo : ℕ) → 0 < nbb → 0 < nbo → midpoint nbb nbo (stepping 1 1) ≡ (nbb + nbo) / 2
grid_one_as_before nbb nbo bid offer =
    midpoint_as_before (stepping 1 1) nbb nbo bid offer (record { below_300 = λ _. one-dvd _; from_300 = λ _. one-dvd _ })

-- with both quotes there is none exactly below the lowest step,
none_below : (g : Grid) (nbb nbo : ℕ) → 1 ≤ (lowest_of g).0 → (lowest_of g).0 < 300 → 0 < nbb → 0 < nbo
    → ((price : ℕ) → Midpoint g nbb nbo price → ⊥) ↔ (nbb + nbo < 2 * (lowest_of g).0)
none_below g nbb nbo least turn bid offer = (
  λ none. elim (dec_lt (nbb + nbo) (2 * (lowest_of g).0)) [
    | yes below ↦ below
    | no above ↦ absurd (none (midpoint nbb nbo g) ((midpoint_highest g nbb nbo (midpoint nbb nbo g) (rw middle (some.1 (omega arith)))).0 refl))
  ],
  λ below price m. omega (arith, some.0 (rw (← middle, (midpoint_highest g nbb nbo price m.least).1 m) m.least)),
)
  where
    some : (0 < highest_on g ((nbb + nbo) / 2)) ↔ ((lowest_of g).0 ≤ (nbb + nbo) / 2)
    some = some_price g ((nbb + nbo) / 2) least turn

    middle : midpoint nbb nbo g ≡ highest_on g ((nbb + nbo) / 2)
    middle = midpoint_is g nbb nbo bid offer

-- so in grid 3 alone, and there exactly where (NBB + NBO)/2 is below 5
pub no_midpoint : (number : ℕ) (g : Grid) (nbb nbo : ℕ) → grid_of number ≡ Some g → 0 < nbb → 0 < nbo
    → ((price : ℕ) → Midpoint g nbb nbo price → ⊥) ↔ ((number ≡ 3) × (nbb + nbo < 2 * 5))
no_midpoint number g nbb nbo is bid offer =
    let (least, most) = lowest_bounds number g is in
    Iff.trans (none_below g nbb nbo least (omega arith) bid offer) (go (eqb number 3) refl (lowest_is number g is))
  where
    go : (three : Bool) → eqb number 3 ≡ three → (lowest_of g).0 ≡ cond three 5 1
        → (nbb + nbo < 2 * (lowest_of g).0) ↔ ((number ≡ 3) × (nbb + nbo < 2 * 5))
    go true x low = (λ h. (eqb-true number 3 x, omega arith), λ (_, h). omega arith)
    go false x low = (λ h. absurd (omega arith), λ (three, _). absurd (eqb-false number 3 x three))
