-- A price is on a grid exactly where its step divides it; the highest at or below a price and the lowest from one on;
-- the lowest step is a price; E4 of the paper, and the turn.
use mathlib.Core.Logic.Iff
use Rattle.std.specs.Prelude.{◌≡◌, Bool, cond, ◌↔◌, ltb, eqb, Option, Some, None}
use Rattle.std.proofs.Math.Path.{refl}
use Rattle.std.proofs.Common.{subst, eqb-true, eq-eqb, ltb-true, ltb-false}
use Rattle.std.proofs.Math.Bool.{true, false}
use Prim.Native.Nat.{ℕ, zero, suc, ◌+◌, ◌-◌, ◌≤◌, ◌<◌, ◌∣◌}
use Rattle.std.proofs.Math.Nat.{mod-eq-zero_of_dvd, dvd_of_mod-eq-zero, dvd-zero, dvd_refl, le_of_dvd}
use Rattle.std.proofs.Math.Decide.{dec_lt}
use native.Mathlib.Omega.{arith}
use Rattle.units.specs.Units.{cents}
use Rattle.units.specs.Tests.{holds_not_fails, order, less, equal, more}
use Rattle.units.specs.Grid.{stepping, grid_of, lowest_of, step_of, on_grid, highest_on, lowest_on}
use Rattle.units.specs.declared.Cents.{Cents}
use Rattle.units.specs.declared.grid.Grid.{Grid}

-- one proof over the step serves every grid
pub on_divides : (g : Grid) (p : Cents) → (on_grid g p ≡ true) ↔ ((step_of g p).0 ∣ p.0)
on_divides g p =
    (λ h. dvd_of_mod-eq-zero (step_of g p).0 (eqb-true _ 0 h), λ d. eq-eqb _ 0 (mod-eq-zero_of_dvd (step_of g p).0 d))

-- the step that counts divides the price: the one below 300 cents, or the one from 300
pub record StepDivides (g : Grid) (price : ℕ) : Type 0 where
  pub below_300 : price < 300 → g.low.0 ∣ price
  pub from_300 : 300 ≤ price → g.high.0 ∣ price

step_divides : (g : Grid) (p : Cents) → ((step_of g p).0 ∣ p.0) ↔ StepDivides g p.0
step_divides g p = go (ltb p.0 300) refl
  where
    go : (b : Bool) → ltb p.0 300 ≡ b → ((cond b g.low g.high).0 ∣ p.0) ↔ StepDivides g p.0
    go true h = let low = ltb-true p.0 300 h in
        (λ d. record { below_300 = λ _. d; from_300 = λ high. absurd (omega arith) }, λ s. s.below_300 low)
    go false h = let high = ltb-false p.0 300 h in
        (λ d. record { below_300 = λ low. absurd (omega arith); from_300 = λ _. d }, λ s. s.from_300 high)

pub on_says : (g : Grid) (p : Cents) → (on_grid g p ≡ true) ↔ StepDivides g p.0
on_says g p = Iff.trans (on_divides g p) (step_divides g p)

-- ---- the highest price at or below

-- looking down from a price: it is on the grid and the highest, or the next below is asked, or there is none
module _ (g : Grid) where
  pub highest_here : (p : ℕ) → 0 < p → on_grid g (cents p) ≡ true → highest_on g p ≡ p
  unfolding highest_on
  highest_here zero h e = omega arith
  highest_here (suc p) h e = rw e

  pub highest_past : (p : ℕ) → 0 < p → on_grid g (cents p) ≡ false → highest_on g p ≡ highest_on g (p - 1)
  unfolding highest_on
  highest_past zero h e = absurd (omega arith)
  highest_past (suc p) h e = let z : suc p - 1 ≡ p = omega arith in rw (e, z)

  pub highest_none : (p : ℕ) → p ≤ 0 → highest_on g p ≡ 0
  unfolding highest_on
  highest_none zero h = refl
  highest_none (suc p) h = absurd (omega arith)

-- a price on the grid, at or below a bound, and no price of the grid between; 0 is on each grid, and is no price
pub record Highest (g : Grid) (bound price : ℕ) : Type 0 where
  pub is_on_grid : StepDivides g price
  pub most : price ≤ bound
  pub none_between : (r : ℕ) → StepDivides g r → r ≤ bound → r ≤ price

module _ (g : Grid) where
  none_yet : Highest g 0 0
  none_yet = record {
    is_on_grid = record { below_300 = λ _. dvd-zero _; from_300 = λ high. absurd (omega arith) };
    most = omega arith;
    none_between = λ r _ h. h;
  }

  here : (m : ℕ) → on_grid g (cents m) ≡ true → Highest g m m
  here m on = record { is_on_grid = (on_says g (cents m)).0 on; most = omega arith; none_between = λ r _ h. h }

  passed : (m p : ℕ) → on_grid g (cents (suc m)) ≡ false → Highest g m p → Highest g (suc m) p
  passed m p off below = record {
    is_on_grid = below.is_on_grid;
    most = omega (arith, below.most);
    none_between = λ r on h. elim (order r (suc m)) [
      | less l ↦ below.none_between r on (omega arith)
      | equal l ↦ absurd (holds_not_fails ((on_says g (cents (suc m))).1 (rw l at on)) off)
      | more l ↦ absurd (omega arith)
    ];
  }

  found : (m : ℕ) → Highest g m (highest_on g m)
  unfolding highest_on
  found zero = none_yet
  found (suc m) = go (on_grid g (cents (suc m))) refl (found m)
    where
      go : (b : Bool) → on_grid g (cents (suc m)) ≡ b → Highest g m (highest_on g m) → Highest g (suc m) (cond b (suc m) (highest_on g m))
      go true on below = here (suc m) on
      go false off below = passed m (highest_on g m) off below

  -- the definition says just that
  pub highest_says : (m p : ℕ) → (highest_on g m ≡ p) ↔ Highest g m p
  highest_says m p = (
    λ e. subst (Highest g m) e (found m),
    λ h. let up = h.none_between (highest_on g m) (found m).is_on_grid (found m).most in
        let down = (found m).none_between p h.is_on_grid h.most in
        omega arith,
  )

  -- there is a price of at least 1 exactly from the lowest step on
  pub some_price : (m : ℕ) → 1 ≤ (lowest_of g).0 → (lowest_of g).0 < 300 → (0 < highest_on g m) ↔ ((lowest_of g).0 ≤ m)
  some_price m least turn = (
    λ some. elim (dec_lt (highest_on g m) 300) [
      | yes low ↦ omega (arith, le_of_dvd some ((found m).is_on_grid.below_300 low), (found m).most)
      | no high ↦ omega (arith, (found m).most)
    ],
    λ h. omega (arith, (found m).none_between (lowest_of g).0 (record { below_300 = λ _. dvd_refl _; from_300 = λ high. absurd (omega arith) }) h),
  )

-- ---- the lowest price from one on

-- looking up from a price to the most: it is on the grid and the lowest, or the next above is asked, or there is none
module _ (g : Grid) (most : ℕ) where
  pub lowest_here : (p : ℕ) → p ≤ most → on_grid g (cents p) ≡ true → lowest_on g (most + 1 - p) p ≡ p
  unfolding lowest_on
  lowest_here p h e = let z : most + 1 - p ≡ suc (most - p) = omega arith in rw (z, e)

  pub lowest_past : (p : ℕ) → p ≤ most → on_grid g (cents p) ≡ false → lowest_on g (most + 1 - p) p ≡ lowest_on g (most + 1 - (p + 1)) (p + 1)
  unfolding lowest_on
  lowest_past p h e = let z : most + 1 - p ≡ suc (most + 1 - (p + 1)) = omega arith in rw (z, e)

  pub lowest_none : (p : ℕ) → most < p → lowest_on g (most + 1 - p) p ≡ 0
  unfolding lowest_on
  lowest_none p h = let z : most + 1 - p ≡ 0 = omega arith in rw z

-- a price on the grid among n prices from one on, and none of the grid before it
pub record Lowest (g : Grid) (n from price : ℕ) : Type 0 where
  pub is_on_grid : StepDivides g price
  pub least : from ≤ price
  pub most : price < from + n
  pub none_between : (r : ℕ) → StepDivides g r → from ≤ r → r < from + n → price ≤ r

module _ (g : Grid) where
  -- what the search up finds: such a price, or 0 where there is none
  data FoundUp (n from : ℕ) : ℕ → Type 0 where
    there : {p : ℕ} → Lowest g n from p → FoundUp n from p
    nowhere : ((r : ℕ) → StepDivides g r → from ≤ r → r < from + n → ⊥) → FoundUp n from 0

  passed_up : {n from p : ℕ} → on_grid g (cents from) ≡ false → FoundUp n (from + 1) p → FoundUp (suc n) from p
  passed_up {n} {from} off (there low) = there (record {
    is_on_grid = low.is_on_grid;
    least = omega (arith, low.least);
    most = omega (arith, low.most);
    none_between = λ r on h k. elim (order from r) [
      | less l ↦ low.none_between r on (omega arith) (omega arith)
      | equal l ↦ absurd (holds_not_fails ((on_says g (cents from)).1 (rw (← l) at on)) off)
      | more l ↦ absurd (omega arith)
    ];
  })
  passed_up {n} {from} off (nowhere none) = nowhere (λ r on h k. elim (order from r) [
    | less l ↦ none r on (omega arith) (omega arith)
    | equal l ↦ holds_not_fails ((on_says g (cents from)).1 (rw (← l) at on)) off
    | more l ↦ absurd (omega arith)
  ])

  found_up : (n from : ℕ) → FoundUp n from (lowest_on g n from)
  unfolding lowest_on
  found_up zero from = nowhere (λ r on h k. absurd (omega arith))
  found_up (suc n) from = go (on_grid g (cents from)) refl (found_up n (from + 1))
    where
      go : (b : Bool) → on_grid g (cents from) ≡ b → FoundUp n (from + 1) (lowest_on g n (from + 1))
          → FoundUp (suc n) from (cond b from (lowest_on g n (from + 1)))
      go true on above = there (record { is_on_grid = (on_says g (cents from)).0 on; least = omega arith; most = omega arith; none_between = λ r _ h _. h })
      go false off above = passed_up off above

  -- the definition says just that: a price found is the lowest, and there is one exactly if one is found
  pub lowest_found : (n from : ℕ) → 0 < lowest_on g n from → Lowest g n from (lowest_on g n from)
  lowest_found n from = go (found_up n from)
    where
      go : {p : ℕ} → FoundUp n from p → 0 < p → Lowest g n from p
      go (there low) some = low
      go (nowhere none) some = absurd (omega arith)

  pub some_lowest : (n from r : ℕ) → 0 < from → StepDivides g r → from ≤ r → r < from + n → 0 < lowest_on g n from
  some_lowest n from r least on h k = go (found_up n from)
    where
      go : {p : ℕ} → FoundUp n from p → 0 < p
      go (there low) = omega (arith, low.least)
      go (nowhere none) = absurd (none r on h k)

-- the lowest step is 5 cents in grid 3 and one cent in the others
abbrev LowestIs : ℕ → Option Grid → Type 0
LowestIs number (Some g) = (lowest_of g).0 ≡ cond (eqb number 3) 5 1
LowestIs number None = Unit {0}

pub lowest_is : (number : ℕ) (g : Grid) → grid_of number ≡ Some g → (lowest_of g).0 ≡ cond (eqb number 3) 5 1
lowest_is number g h = subst (LowestIs number) h (by (eqb number 1) (eqb number 2) (eqb number 3) refl refl refl)
  where
    by : (a b c : Bool) → eqb number 1 ≡ a → eqb number 2 ≡ b → eqb number 3 ≡ c
        → LowestIs number (cond a (Some (stepping 1 1)) (cond b (Some (stepping 1 5)) (cond c (Some (stepping 5 10)) None)))
    by true b c x y z = rw (eqb-true number 1 x) refl
    by false true c x y z = rw (eqb-true number 2 y) refl
    by false false true x y z = rw z refl
    by false false false x y z = tt

pub lowest_bounds : (number : ℕ) (g : Grid) → grid_of number ≡ Some g → (1 ≤ (lowest_of g).0) × ((lowest_of g).0 ≤ 5)
lowest_bounds number g h = go (eqb number 3) (lowest_is number g h)
  where
    go : (three : Bool) → (lowest_of g).0 ≡ cond three 5 1 → (1 ≤ (lowest_of g).0) × ((lowest_of g).0 ≤ 5)
    go true e = (omega arith, omega arith)
    go false e = (omega arith, omega arith)

-- E4 grid 2: 299 and 305 pass, 301 doesn't.
abbrev pub E4 : Type 0
E4 =
    (g : Grid)
    × (grid_of 2 ≡ Some g)
    × (on_grid g (cents 299) ≡ true)
    × (on_grid g (cents 305) ≡ true)
    × (on_grid g (cents 301) ≡ false)

pub e4 : E4
e4 = (stepping 1 5, refl, refl, refl, refl)

-- At the turn the step is that of the price itself, looking down and looking up: in grid 2 from 302 and 299, and from
-- 299 and 301; in grid 3 from 309 and 299, and from 296 and 301.
abbrev pub AtTurn : Type 0
AtTurn =
    (highest_on (stepping 1 5) 302 ≡ 300)
    × (highest_on (stepping 1 5) 299 ≡ 299)
    × (lowest_on (stepping 1 5) 10 299 ≡ 299)
    × (lowest_on (stepping 1 5) 10 301 ≡ 305)
    × (highest_on (stepping 5 10) 309 ≡ 300)
    × (highest_on (stepping 5 10) 299 ≡ 295)
    × (lowest_on (stepping 5 10) 10 296 ≡ 300)
    × (lowest_on (stepping 5 10) 10 301 ≡ 310)

pub at_turn : AtTurn
unfolding highest_on lowest_on
at_turn = (refl, refl, refl, refl, refl, refl, refl, refl)
