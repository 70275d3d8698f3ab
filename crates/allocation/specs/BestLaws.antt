-- The best key from a floor on at which something rests: how it stands to the floor and to the keys, and the search for
-- it and for what rests there in one pass.
use Rattle.std.specs.Prelude.{◌≡◌, refl, ◌≢◌, ℕ, ◌+◌, ◌*◌, ◌≤◌, ◌<◌, eqb}
use Rattle.std.proofs.Math.Path.{sym}
use Rattle.std.proofs.Common.{◌∙◌, add-zero, zero-add, eq-eqb, ne_eqb}
use Rattle.std.proofs.Math.Decide.{dec_lt, ℕ_discrete}
use native.Mathlib.Omega.{arith}
use Rattle.units.specs.Units.{most32}
use Rattle.units.specs.Tests.{order, less, equal, more}
use Rattle.units.specs.Sums.{sum_to, sum_zero, sum_next, sum_none}
use Rattle.units.specs.Picked.{keep, keep_most, same, same_in, same_out}
use Rattle.units.specs.Leasts.{least_none, least_next, least_top, least_most, least_floor}
use Rattle.levels.specs.Levels.{candidate, best_from}
use Rattle.levels.specs.LevelLaws.{candidate_free, candidate_low, candidate_is}
use Rattle.allocation.specs.Gathering.{Joined}

module _ (n top : ℕ) (key size : ℕ → ℕ) (floor : ℕ) where
  pub best_top : best_from n top key size floor ≤ top
  unfolding best_from
  best_top = least_top top (λ i. candidate top floor (key i) (size i)) n

  -- the best key from the floor on is not below it
  pub best_floor : floor ≤ top → floor ≤ best_from n top key size floor
  unfolding best_from
  best_floor h = least_floor top (λ i. candidate top floor (key i) (size i)) n floor h λ i p.
      elim (dec_lt (key i) floor) [
        | yes q ↦ omega (arith, candidate_low top floor (key i) (size i) q)
        | no q ↦ elim (order 0 (size i)) [
          | less x ↦ omega (arith, candidate_is top floor (key i) (size i) x (omega arith))
          | equal x ↦ omega (arith, candidate_free top floor (key i) (size i) (sym x))
          | more x ↦ omega arith
        ]
      ]

  -- nothing rests between the floor and it
  pub best_least : (i : ℕ) → i < n → 0 < size i → floor ≤ key i → best_from n top key size floor ≤ key i
  unfolding best_from
  best_least i p x h =
      omega (arith, least_most top (λ j. candidate top floor (key j) (size j)) n i p, candidate_is top floor (key i) (size i) x h)

-- looking for the best key and what rests there, in one pass: k is the best of the places passed, and t rests there
abbrev pub BestSoFar : ℕ → ℕ → (ℕ → ℕ) → (ℕ → ℕ) → ℕ → ℕ → ℕ → ℕ → Type 0
BestSoFar n top key size floor j k t =
    (j ≤ n) × (floor ≤ k) × (k ≡ best_from j top key size floor) × (t ≡ sum_to (same key k size) j) × (t ≤ j * most32)

-- one place joined to the best so far, where that is from the floor on
module _ (floor key size k t : ℕ) (low : floor ≤ k) where
  -- one that is no better is no candidate before k
  no_better : k ≤ key → k ≤ candidate k floor key size
  no_better d = elim (order 0 size) [
    | less x ↦ omega (arith, candidate_is k floor key size x (omega arith))
    | equal x ↦ omega (arith, candidate_free k floor key size (sym x))
    | more x ↦ omega arith
  ]

  -- it is another key, and no better one: nothing changes
  joins_not : key ≢ k → k ≤ candidate k floor key size → Joined floor key size k t k t
  joins_not d h = (omega arith, rw (eq-eqb k k refl, ne_eqb k key (λ e. d (sym e))) (sym (add-zero t)))

  -- one below the floor, a worse one, and one at which nothing rests
  pub joins_below : key < floor → Joined floor key size k t k t
  joins_below h = joins_not (omega arith) (omega (arith, candidate_low k floor key size h))

  pub joins_free : key < k → size ≡ 0 → Joined floor key size k t k t
  joins_free d h = joins_not (omega arith) (omega (arith, candidate_free k floor key size h))

  pub joins_worse : k < key → Joined floor key size k t k t
  joins_worse d = joins_not (omega arith) (no_better (omega arith))

  -- the same key: what rests there is added
  pub joins_same : key ≡ k → Joined floor key size k t k (t + size)
  joins_same e = (omega (arith, no_better (omega arith)), rw (eq-eqb k k refl, eq-eqb k key (sym e)) refl)

  -- a better key from the floor on takes its place
  pub joins_better : key < k → floor ≤ key → 0 < size → Joined floor key size k t key size
  joins_better d h x = (omega (arith, candidate_is k floor key size x h), rw (ne_eqb key k (omega arith), eq-eqb key key refl) (sym (zero-add size)))

module _ (n top : ℕ) (key size : ℕ → ℕ) (floor : ℕ) (low : floor ≤ top) where
  pub best_starts : BestSoFar n top key size floor 0 top 0
  unfolding best_from
  best_starts =
      (omega arith, low, sym (least_none top (λ i. candidate top floor (key i) (size i))), sym (sum_zero (same key top size)), omega arith)

  -- a place more, joined to the best so far
  module _ (j k t k' t' : ℕ) (so_far : BestSoFar n top key size floor j k t)
      (joined : Joined floor (key j) (size j) k t k' t') where
    -- the best key is the better of the two
    best_key : k' ≡ best_from (j + 1) top key size floor
    unfolding best_from
    best_key =
        let next = least_next top (λ i. candidate top floor (key i) (size i)) j in
        let bounded = best_top j top key size floor in
        elim (dec_lt (key j) floor) [
          | yes h ↦ omega (arith, candidate_low k floor (key j) (size j) h, candidate_low top floor (key j) (size j) h)
          | no h ↦ elim (order 0 (size j)) [
            | less x ↦ omega (arith, candidate_is k floor (key j) (size j) x (omega arith), candidate_is top floor (key j) (size j) x (omega arith))
            | equal x ↦ omega (arith, candidate_free k floor (key j) (size j) (sym x), candidate_free top floor (key j) (size j) (sym x))
            | more x ↦ omega arith
          ]
        ]

    -- nothing rests at a better key before this place
    none_better : k' < k → sum_to (same key k' size) j ≡ 0
    none_better h = sum_none j λ i p. elim (ℕ_discrete (key i) k') [
      | yes e ↦ elim (order 0 (size i)) [
        | less x ↦
            absurd (omega (arith, best_floor (j + 1) top key size floor low, best_key, best_least j top key size floor i p x (omega (arith, best_floor (j + 1) top key size floor low, best_key))))
        | equal x ↦ same_in key k' size i e ∙ sym x
        | more x ↦ omega arith
      ]
      | no e ↦ same_out key k' size i e
    ]

    here : same key k' size j ≡ keep (eqb k' (key j)) (size j)
    here = elim (ℕ_discrete (key j) k') [
      | yes e ↦ rw (same_in key k' size j e, eq-eqb k' (key j) (sym e)) refl
      | no e ↦ rw (same_out key k' size j e, ne_eqb k' (key j) (λ d. e (sym d))) refl
    ]

    before : keep (eqb k' k) t ≡ sum_to (same key k' size) j
    before = elim (order k' k) [
      | less h ↦ rw (ne_eqb k' k (omega arith)) (sym (none_better h))
      | equal h ↦ rw (eq-eqb k' k h, h) so_far.3
      | more h ↦ absurd (omega arith)
    ]

    pub best_goes_on : j < n → size j ≤ most32 → BestSoFar n top key size floor (j + 1) k' t'
    best_goes_on h small =
        (omega arith, omega (arith, best_floor (j + 1) top key size floor low, best_key), best_key, omega (arith, sum_next (same key k' size) j, here, before), omega (arith, keep_most (eqb k' k) t, keep_most (eqb k' (key j)) (size j)))

pub best_ends : (n top : ℕ) (key size : ℕ → ℕ) (floor j k t : ℕ) → BestSoFar n top key size floor j k t → n ≤ j
    → (k ≡ best_from n top key size floor) × (t ≡ sum_to (same key k size) n)
best_ends n top key size floor j k t w h = let e : j ≡ n = omega arith in (rw e at w.2, rw e at w.3)
