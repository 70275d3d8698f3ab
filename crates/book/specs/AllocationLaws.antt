-- The laws of the allocation: what no row exceeds, what all rows together trade, and who goes first.
use Rattle.std.proofs.Math.Path.{◌≡◌, refl, ap}
use Rattle.std.proofs.Common.{sym, ◌∙◌, le_refl, le_of_lt, mul-zero, div-lt_iff_lt-mul}
use Rattle.std.specs.Prelude.{Bool, ◌&&◌, eqb}
use Rattle.std.proofs.Math.Bool.{true, false, and-eq-true_iff}
use Prim.Native.Nat.{ℕ, suc, ◌+◌, ◌*◌, ◌-◌, ◌/◌, ◌≤◌, ◌<◌, min}
use Rattle.std.proofs.Math.Nat.{zero-div, mul-lt-mul_of_pos_right}
use Rattle.std.proofs.Math.Decide.{dec_lt, dec_le}
use native.Mathlib.Omega.{arith}
use Rattle.std.proofs.Math.Dec.{ltb}
use borrow.Author.Tests.{lt-ltb, le-ltb, le-leb, lt-leb, eq-eqb, ne_eqb, eqb-true, ltb-true}
use Rattle.units.specs.Tests.{fails, holds_not_fails, order, less, equal, more}
use Rattle.units.specs.Precedence.{Before, before_holds, is_before, not_itself, chained_down}
use Rattle.units.specs.Sums.{sum_to, sum_same, sum_most, sum_add, sum_has, sum_tight, sum_less, sum_gap}
use Rattle.units.specs.Picked.{keep, precedes, same, lower, keeps, keep_most, keep_and, keep_none, same_in, same_both, same_add, same_found, sum_lower_next, lower_in, lower_out, lower_grows}
use Rattle.units.specs.Filling.{filled, filled_in_turn, shares_most, shares_least}
use Rattle.book.specs.Allocation.{Resting, Class, time, proportion, before, level, earlier, ahead, rank, left, whole, leftover, extra, fill}

-- no two rows that hold something have one number
abbrev pub Distinct : Resting → Type 0
Distinct r = (i j : ℕ) → i < r.places → j < r.places → 0 < r.size i → 0 < r.size j → r.number i ≡ r.number j → i ≡ j

-- ---- rank, as a sum over two keys: first by size, the larger first, and then by number

module _ (r : Resting) where
  open r use {places, size, key, number}

  -- 1 where i holds something, else 0
  one : ℕ → ℕ
  one i = min (size i) 1

  one_is : (i : ℕ) → one i ≡ keep (ltb 0 (size i)) 1
  unfolding one
  one_is i = elim (dec_lt 0 (size i)) [
    | yes h ↦ simp (lt-ltb 0 (size i) h) (omega arith)
    | no h ↦ simp (le-ltb 0 (size i) (omega arith)) (omega arith)
  ]

  -- a key by which the larger come first
  down : ℕ → ℕ
  down i = sum_to size places - size i

  -- those at the key of i that are larger, and those of its size that came earlier
  larger : ℕ → ℕ → ℕ
  larger i = lower down (down i) (same key (key i) one)

  sooner : ℕ → ℕ → ℕ
  sooner i = lower number (number i) (same down (down i) (same key (key i) one))

  ahead_split : (i j : ℕ) → i < places → j < places → keep (ahead r i j) 1 ≡ larger i j + sooner i j
  unfolding ahead precedes larger sooner lower same down
  ahead_split i j p p' =
      let bound = sum_has size places i p in
      let bound' = sum_has size places j p' in
      elim (order (size i) (size j)) [
        | less h ↦ simp (lt-ltb (size i) (size j) h, lt-ltb (down j) (down i) (omega arith), ne_eqb (down j) (down i) (omega arith), one_is, keeps)
        | equal h ↦ simp (le-ltb (size i) (size j) (omega arith), le-ltb (down j) (down i) (omega arith), eq-eqb (size i) (size j) h, eq-eqb (down j) (down i) (omega arith), one_is, keeps)
        | more h ↦ simp (le-ltb (size i) (size j) (omega arith), le-ltb (down j) (down i) (omega arith), ne_eqb (size i) (size j) (omega arith), ne_eqb (down j) (down i) (omega arith), keeps)
      ]

  rank_split : (i : ℕ) → i < places → rank r i ≡ sum_to (larger i) places + sum_to (sooner i) places
  unfolding rank
  rank_split i p = sum_add (larger i) (sooner i) places (λ j p'. ahead_split i j p p')

module _ (r : Resting) (q : ℕ) where
  open r use {places, size, key, number}

  -- ---- by time: the places of a key are filled in turn

  level_by_time : Distinct r → (c : ℕ) → sum_to (same key c (fill r q time)) places ≡ min (left r q c) (level r c)
  unfolding level fill earlier
  level_by_time d c =
      filled_in_turn number (same key c (fill r q time)) (same key c size) (left r q c) places
      (λ i j p p' x x' e. d i j p p' (same_found key c size i x).1 (same_found key c size j x').1 e)
      (λ i p.
      let rest = left r q c - sum_to (lower number (number i) (same key c size)) places in
      same_both (λ x y. x ≡ min y rest) key c (fill r q time) size i (omega arith) (λ e. rw e refl))

  -- ---- in proportion: the contracts left over

  extra_most : (i : ℕ) → extra r q i ≤ 1
  unfolding extra
  extra_most i = keep_most (ltb 0 (size i) && ltb (rank r i) (leftover r q (key i))) 1

  extra_is : (i : ℕ) → extra r q i ≡ min (one r i) (leftover r q (key i) - rank r i)
  unfolding extra one
  extra_is i = elim (dec_lt (rank r i) (leftover r q (key i))) [
    | yes h ↦ simp (lt-ltb (rank r i) (leftover r q (key i)) h, keep_and, ← one_is) (omega arith)
    | no h ↦ simp (le-ltb (rank r i) (leftover r q (key i)) (omega arith), keep_and, keep_none) (omega arith)
  ]

  -- they go to as many places as they are, or to all that hold something: filled by size, and at each size by number
  extra_sum : Distinct r → (c : ℕ) → sum_to (same key c (extra r q)) places ≡ min (leftover r q c) (sum_to (same key c (one r)) places)
  unfolding larger sooner
  extra_sum d c =
      let f = same key c (extra r q) in
      let w = same key c (one r) in
      filled (down r) f w (leftover r q c) places λ s.
      let rest = leftover r q c - sum_to (lower (down r) s w) places in
      filled_in_turn number (same (down r) s f) (same (down r) s w) rest places
      (λ i j p p' x x' e. d i j p p' (holds i s x) (holds j s x') e)
      (λ i p.
      let P : ℕ → ℕ → Type 0 = λ x y. x ≡ min y (rest - sum_to (lower number (number i) (same (down r) s w)) places) in
      same_both P (down r) s f w i (omega arith) λ e.
      same_both P key c (extra r q) (one r) i (omega arith) λ e'.
      omega (arith, rw (e, e') at (rank_split r i p), rw e' at (extra_is i)))
    where
      holds : (i s : ℕ) → 0 < same (down r) s (same key c (one r)) i → 0 < size i
      holds i s x = unfold one in omega (arith, same_found key c (one r) i (same_found (down r) s (same key c (one r)) i x).1)

  -- ---- in proportion: the whole parts

  whole_is : (c i : ℕ) → same key c (whole r q) i ≡ left r q c * same key c size i / level r c
  unfolding whole
  whole_is c i =
      same_both (λ x y. x ≡ left r q c * y / level r c) key c (whole r q) size i (simp (mul-zero, zero-div)) (λ e. rw e refl)

  module _ (c : ℕ) (short : left r q c < level r c) where
    -- they are no more than reach the key
    whole_most : sum_to (same key c (whole r q)) places ≤ left r q c
    unfolding level
    whole_most = shares_most (same key c size) (same key c (whole r q)) (left r q c) places (omega arith) (λ i p. whole_is c i)

    -- with one more for each place that holds something they are no less
    whole_least : left r q c ≤ sum_to (same key c (whole r q)) places + sum_to (same key c (one r)) places
    unfolding level one
    whole_least =
        shares_least (same key c size) (same key c (whole r q)) (left r q c) places (omega arith) (λ i p. whole_is c i)
        (same key c (one r))
        (λ i p. same_both (λ x y. 0 < x → 0 < y) key c size (one r) i (omega arith) (λ e. omega arith))

  -- where a place holds something its whole part is below its size
  share_most : (i : ℕ) → left r q (key i) < level r (key i) → whole r q i + extra r q i ≤ size i
  unfolding whole one
  share_most i h =
      let reach = left r q (key i) in
      let all = level r (key i) in
      elim (order 0 (size i)) [
        | less x ↦
            let smaller : reach * size i < size i * all = omega (arith, mul-lt-mul_of_pos_right h x) in
            omega (arith, extra_most i, (div-lt_iff_lt-mul {k = all} (omega arith)).1 smaller)
        | equal x ↦ omega (arith, extra_is i, simp (mul-zero, zero-div) at (ap (λ n. reach * n / all) (sym x)))
        | more x ↦ omega arith
      ]

  -- ---- the laws

  -- No row trades more than it holds.
  pub fill_most : (k : Class) (i : ℕ) → fill r q k i ≤ size i
  unfolding fill
  fill_most time i = omega arith
  fill_most proportion i = elim (dec_le (level r (key i)) (left r q (key i))) [
    | yes h ↦ simp (le-leb (level r (key i)) (left r q (key i)) h) (le_refl (size i))
    | no h ↦ simp (lt-leb (level r (key i)) (left r q (key i)) (omega arith)) (share_most i (omega arith))
  ]

  -- In proportion, at a price that holds more than reaches it, a row trades the whole part of its share or one more.
  pub fill_share : (i : ℕ) → left r q (key i) < level r (key i)
      → (whole r q i ≤ fill r q proportion i) × (fill r q proportion i ≤ whole r q i + 1)
  unfolding fill
  fill_share i h = simp (lt-leb (level r (key i)) (left r q (key i)) h) (omega (arith, extra_most i))

  -- The rows of a price together trade what reaches the price, up to what they hold.
  pub level_filled : Distinct r → (k : Class) (c : ℕ) → sum_to (same key c (fill r q k)) places ≡ min (left r q c) (level r c)
  unfolding fill leftover level
  level_filled d time c = level_by_time d c
  level_filled d proportion c =
      let f = fill r q proportion in
      elim (dec_le (level r c) (left r q c)) [
        | yes h ↦
            let enough : (i : ℕ) → key i ≡ c → f i ≡ size i = λ i e. simp (e, le-leb (level r c) (left r q c) h) in
            omega (arith, sum_same places (λ i p. same_both ◌≡◌ key c f size i refl (enough i)))
        | no h ↦
            let short : left r q c < level r c = omega arith in
            let shared : (i : ℕ) → key i ≡ c → f i ≡ whole r q i + extra r q i = λ i e. simp (e, lt-leb (level r c) (left r q c) short) in
            let sums = sum_add (same key c (whole r q)) (same key c (extra r q)) places
            (λ i p. same_add key c (whole r q) (extra r q) f i (shared i)) in
            omega (arith, extra_sum d c, whole_most c short, whole_least c short)
      ]

  -- All rows together trade the order, up to what they hold.
  pub all_filled : Distinct r → (k : Class) → sum_to (fill r q k) places ≡ min q (sum_to size places)
  unfolding left before level
  all_filled d k = filled key (fill r q k) size q places (level_filled d k)

  -- A worse price trades only when the better is exhausted: where a row trades, all rows of better prices trade all
  -- that they hold.
  pub best_first : Distinct r → (k : Class) (i j : ℕ) → i < places → j < places → 0 < fill r q k i → key j < key i → fill r q k j ≡ size j
  unfolding left before level
  best_first d k i j p p' x h =
      let f = fill r q k in
      let here = level_filled d k (key i) in
      let there = level_filled d k (key j) in
      let mine = sum_has (same key (key i) f) places i p in
      let upto = sum_lower_next key (key j) size places in
      let grows = sum_most places (λ l _. lower_grows key (suc (key j)) (key i) size l h) in
      let tight = sum_tight places (λ l _. same_both ◌≤◌ key (key j) f size l (omega arith) (λ _. fill_most k l))
      (omega (arith, same_in key (key i) f i refl)) j p' in
      omega (arith, same_in key (key j) f j refl, same_in key (key j) size j refl)

  -- By time the earlier goes first: where a row trades, each earlier one at its price trades all that it holds.
  pub earlier_first : (i j : ℕ) → j < places → 0 < fill r q time i → key j ≡ key i → number j < number i → fill r q time j ≡ size j
  unfolding fill earlier
  earlier_first i j p x e h =
      let c = key i in
      let level_of = same key c size in
      let gap = sum_gap {f = lower number (number j) level_of} {g = lower number (number i) level_of} places j
      (λ l _. lower_grows number (number j) (number i) level_of l (le_of_lt h)) p in
      rw e (omega (
        arith,
        x,
        gap,
        lower_out number (number j) level_of j (le_refl (number j)),
        lower_in number (number i) level_of j h,
        same_in key c size j e,
      ))

-- A leftover contract goes to the larger, then to the earlier.
module _ (r : Resting) where
  open r use {places, size, key, number}

  -- j is ahead of i exactly where it rests at the price of i and is larger, or of its size and earlier
  ahead_facts : (i j : ℕ) → ahead r i j ≡ true → (key j ≡ key i) × (0 < size j) × Before (size i) (size j) (number j) (number i)
  unfolding ahead
  ahead_facts i j h =
      let outer = (and-eq-true_iff (eqb (key j) (key i) && ltb 0 (size j)) _).0 h in
      let inner = (and-eq-true_iff (eqb (key j) (key i)) _).0 outer.0 in
      (eqb-true (key j) (key i) inner.0, ltb-true 0 (size j) inner.1, before_holds outer.1)

  ahead_holds : (i j : ℕ) → key j ≡ key i → 0 < size j → Before (size i) (size j) (number j) (number i) → ahead r i j ≡ true
  unfolding ahead
  ahead_holds i j e x b = simp (eq-eqb (key j) (key i) e, lt-ltb 0 (size j) x, is_before b)

  ahead_itself : (i : ℕ) → ahead r i i ≡ false
  ahead_itself i = fails (ahead r i i) (λ h. holds_not_fails (is_before (ahead_facts i i h).2) (not_itself (size i) (number i)))

  -- who is ahead has the lower rank
  rank_less : (i j : ℕ) → j < places → key j ≡ key i → 0 < size j → Before (size i) (size j) (number j) (number i) → rank r j < rank r i
  unfolding rank
  rank_less i j p e x b =
      sum_less places j (λ l _. each l (ahead r j l) refl) p (rw (ahead_itself j, ahead_holds i j e x b) (omega arith))
    where
      each : (l : ℕ) (t : Bool) → ahead r j l ≡ t → keep (ahead r j l) 1 ≤ keep (ahead r i l) 1
      each l false h = rw h (omega arith)
      each l true h =
          let (f, y, c) = ahead_facts j l h in
          rw (h, ahead_holds i l (f ∙ e) y (chained_down b c)) (omega arith)

  pub leftover_first :
      (q i j : ℕ) → j < places → 0 < extra r q i → key j ≡ key i → 0 < size j → Before (size i) (size j) (number j) (number i) →
      extra r q j ≡ 1
  unfolding one
  leftover_first q i j p x e y b =
      omega (arith, extra_is r q j, extra_is r q i, rank_less i j p e y b, ap (leftover r q) e)
