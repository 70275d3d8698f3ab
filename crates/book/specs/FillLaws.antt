-- What a row trades, told by the edge: all of it at a better price, nothing at a worse one, and at the edge by the
-- class.
use Rattle.std.proofs.Math.Path.{◌≡◌, refl}
use Prim.Native.Nat.{ℕ, suc, ◌+◌, ◌-◌, ◌≤◌, ◌<◌, min}
use Rattle.std.proofs.Common.{arith}
use Rattle.std.specs.Prelude.{ltb}
use borrow.Author.Tests.{lt-ltb, lt-leb}
use Rattle.units.specs.Sums.{sum_to, sum_same, sum_most, sum_has, sum_tight}
use Rattle.units.specs.Picked.{keep, same, lower, same_in, same_both, sum_lower_next, lower_grows}
use Rattle.levels.specs.Levels.{whole_of, wholes, larger}
use Rattle.allocation.specs.Edge.{AtEdge}
use Rattle.book.specs.Allocation.{Resting, Class, time, proportion, before, level, earlier, ahead, rank, left, whole, leftover, extra, fill}
use Rattle.book.specs.AllocationLaws.{Distinct, fill_most, level_filled}

-- a row that holds nothing trades nothing
pub fill_free : (r : Resting) (q : ℕ) (k : Class) (i : ℕ) → r.size i ≡ 0 → fill r q k i ≡ 0
fill_free r q k i z = omega (arith, fill_most r q k i)

pub rank_is : (r : Resting) (i : ℕ) → rank r i ≡ sum_to (larger r.key r.size r.number (r.key i) (r.size i) (r.number i)) r.places
unfolding rank ahead larger
rank_is r i = refl

module _ (r : Resting) (q m rest : ℕ) (edge : AtEdge r.places r.key r.size q m rest) where
  open r use {places, size, key, number}

  -- a better price is filled whole
  pub fill_better : Distinct r → (k : Class) (i : ℕ) → i < places → key i < m → fill r q k i ≡ size i
  unfolding left before level
  fill_better d k i p h =
      let f = fill r q k in
      let there = level_filled r q d k (key i) in
      let upto = sum_lower_next key (key i) size places in
      let grows = sum_most places (λ l _. lower_grows key (suc (key i)) m size l h) in
      let tight = sum_tight places (λ l _. same_both ◌≤◌ key (key i) f size l (omega arith) (λ _. fill_most r q k l))
      (omega (arith, edge.reaches)) i p in
      omega (arith, same_in key (key i) f i refl, same_in key (key i) size i refl)

  -- nothing reaches a worse one
  pub fill_worse : Distinct r → (k : Class) (i : ℕ) → i < places → 0 < size i → m < key i → fill r q k i ≡ 0
  unfolding left before level
  fill_worse d k i p x h =
      let f = fill r q k in
      let there = level_filled r q d k (key i) in
      let mine = sum_has (same key (key i) f) places i p in
      let grows = sum_most places (λ l _. lower_grows key (suc m) (key i) size l h) in
      omega (arith, edge.short i p x (omega arith), same_in key (key i) f i refl)

  reach_is : left r q m ≡ rest
  unfolding left before
  reach_is = omega (arith, edge.reaches)

  -- at the edge by time: again an edge, that of the numbers, in what the rows of this price hold
  module _ (n last : ℕ) (line : AtEdge places number (same key m size) rest n last) (i : ℕ) (p : i < places) (e : key i ≡ m) where
    by_time : fill r q time i ≡ min (size i) (rest - sum_to (lower number (number i) (same key m size)) places)
    unfolding fill earlier
    by_time = simp (e, reach_is)

    -- the earlier are filled whole
    pub fill_earlier : number i < n → fill r q time i ≡ size i
    fill_earlier h = omega (
      arith,
      by_time,
      line.reaches,
      sum_lower_next number (number i) (same key m size) places,
      sum_most places (λ l _. lower_grows number (suc (number i)) n (same key m size) l h),
      sum_has (same number (number i) (same key m size)) places i p,
      same_in number (number i) (same key m size) i refl,
      same_in key m size i e,
    )

    -- nothing reaches the later
    pub fill_later : 0 < size i → n < number i → fill r q time i ≡ 0
    fill_later x h = omega (
      arith,
      by_time,
      line.short i p (omega (arith, same_in key m size i e)) (omega arith),
      sum_most places (λ l _. lower_grows number (suc n) (number i) (same key m size) l h),
    )

    -- the one between gets what is left
    pub fill_last : number i ≡ n → fill r q time i ≡ min (size i) last
    fill_last h = omega (arith, rw h at by_time, line.reaches)

  -- at the edge in proportion: the whole part of the share, and one more for the first by rank
  module _ (i : ℕ) (p : i < places) (x : 0 < size i) (e : key i ≡ m) where
    short_here : rest < sum_to (same key m size) places
    short_here = omega (arith, edge.reaches, edge.short i p x (omega arith), sum_lower_next key m size places)

    wholes_are : sum_to (same key m (whole r q)) places ≡ sum_to (same key m (wholes rest (sum_to (same key m size) places) size)) places
    unfolding whole whole_of level
    wholes_are = sum_same places λ j _. same_both ◌≡◌ key m (whole r q) (wholes rest (sum_to (same key m size) places) size) j refl λ e'.
        simp (e', reach_is, lt-leb (sum_to (same key m size) places) rest short_here)

    pub fill_in_proportion : fill r q proportion i
        ≡ whole_of rest (size i) (sum_to (same key m size) places)
        + keep (ltb (rank r i) (rest - sum_to (same key m (wholes rest (sum_to (same key m size) places) size)) places)) 1
    unfolding fill level extra leftover whole whole_of
    fill_in_proportion = simp (e, reach_is, lt-leb (sum_to (same key m size) places) rest short_here, lt-ltb 0 (size i) x, wholes_are)
