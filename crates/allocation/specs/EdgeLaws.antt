-- The search for the edge, key by key.
use Rattle.std.specs.Prelude.{◌≡◌, refl, ℕ, suc, ◌+◌, ◌-◌, ◌≤◌, ◌<◌}
use Rattle.std.proofs.Common.{sym, ◌∙◌, add-one, arith}
use Rattle.std.proofs.Math.Decide.{dec_lt}
use Rattle.units.specs.Tests.{order, less, equal, more}
use Rattle.units.specs.Sums.{sum_to, sum_same, sum_most, sum_none, sum_add, sum_found}
use Rattle.units.specs.Picked.{same, lower, lower_in, lower_out, lower_grows, sum_lower_next}
use Rattle.levels.specs.Levels.{best_from}
use Rattle.allocation.specs.Edge.{AtEdge, EdgeAt}
use Rattle.allocation.specs.BestLaws.{best_top, best_floor, best_least}

-- what stands below a key is no more than there is
lower_most : (key : ℕ → ℕ) (c : ℕ) (size : ℕ → ℕ) (i : ℕ) → lower key c size i ≤ size i
lower_most key c size i = elim (dec_lt (key i) c) [
  | yes h ↦ omega (arith, lower_in key c size i h)
  | no h ↦ omega (arith, lower_out key c size i (omega arith))
]

lower_all : (key : ℕ → ℕ) (c : ℕ) (size : ℕ → ℕ) (n : ℕ) → sum_to (lower key c size) n ≤ sum_to size n
lower_all key c size n = sum_most n (λ i _. lower_most key c size i)

module _ (n top : ℕ) (key size : ℕ → ℕ) (floor : ℕ) where
  -- nothing rests between the floor and the best key from there on, so as much rests before it as before the floor
  best_before : floor ≤ top → sum_to (lower key (best_from n top key size floor) size) n ≡ sum_to (lower key floor size) n
  best_before h = sum_same n λ i p.
      let b = best_from n top key size floor in
      let up = best_floor n top key size floor h in
      elim (dec_lt (key i) floor) [
        | yes q ↦ omega (arith, lower_in key b size i (omega arith), lower_in key floor size i q)
        | no q ↦ elim (dec_lt (key i) b) [
          | yes r ↦ elim (order 0 (size i)) [
            | less x ↦ omega (arith, best_least n top key size floor i p x (omega arith))
            | equal x ↦ omega (arith, lower_in key b size i r, lower_out key floor size i (omega arith))
            | more x ↦ omega arith
          ]
          | no r ↦ omega (arith, lower_out key b size i (omega arith), lower_out key floor size i (omega arith))
        ]
      ]

-- what reaches the floor is what better keys leave of the order
abbrev pub Reaching : ℕ → (ℕ → ℕ) → (ℕ → ℕ) → ℕ → ℕ → ℕ → Type 0
Reaching n key size q left floor = left + sum_to (lower key floor size) n ≡ q

pub reaching_starts : (n : ℕ) (key size : ℕ → ℕ) (q : ℕ) → Reaching n key size q q 0
reaching_starts n key size q = omega (arith, sum_none n (λ i p. lower_out key 0 size i (omega arith)))

-- k is the best key from the floor on, and `total` rests there
module _ (n top : ℕ) (key size : ℕ → ℕ) (q left floor k total : ℕ) (low : floor < top) (inv : Reaching n key size q left floor)
    (best : k ≡ best_from n top key size floor) (at_k : total ≡ sum_to (same key k size) n) where
  at_best : Reaching n key size q left k
  at_best = rw best (omega (arith, best_before n top key size floor (omega arith)))

  pub best_bounds : (floor ≤ k) × (k ≤ top)
  best_bounds = omega (arith, best_floor n top key size floor (omega arith), best_top n top key size floor)

  -- it holds more than is left: the edge
  pub edge_found : left < total → EdgeAt n top key size q k left
  edge_found h = record {
    at_edge = record { reaches = at_best; short = λ i p x m. omega (arith, at_best, sum_lower_next key k size n) };
    past = λ all. absurd (omega (arith, at_best, sum_lower_next key k size n, lower_all key (suc k) size n));
  }

  -- it is filled whole: on from the next key
  pub reaching_goes_on : total ≤ left → Reaching n key size q (left - total) (k + 1)
  reaching_goes_on h = rw add-one (omega (arith, at_best, sum_lower_next key k size n))

-- past every key nothing rests
pub edge_past : (n top : ℕ) (key size : ℕ → ℕ) (q left floor : ℕ) → top ≤ floor → ((i : ℕ) → i < n → 0 < size i → key i < top)
    → Reaching n key size q left floor → EdgeAt n top key size q top left
edge_past n top key size q left floor h keyed inv =
    let below : sum_to (lower key top size) n ≡ sum_to (lower key floor size) n = sum_same n λ i p. elim (order 0 (size i)) [
      | less x ↦ (let l = keyed i p x in lower_in key top size i l ∙ sym (lower_in key floor size i (omega arith)))
      | equal x ↦ omega (arith, lower_most key top size i, lower_most key floor size i)
      | more x ↦ omega arith
    ] in
    record { at_edge = record { reaches = omega arith; short = λ i p x m. omega (arith, keyed i p x) }; past = λ all. refl }

-- an order that fills all there is has its edge past every key
pub edge_of_all : (n top : ℕ) (key size : ℕ → ℕ) (q all : ℕ) → ((i : ℕ) → i < n → 0 < size i → key i < top) → all ≡ sum_to size n → all ≤ q
    → EdgeAt n top key size q top (q - all)
edge_of_all n top key size q all keyed e h =
    let everyone : sum_to (lower key top size) n ≡ sum_to size n = sum_same n λ i p. elim (order 0 (size i)) [
      | less x ↦ lower_in key top size i (keyed i p x)
      | equal x ↦ elim (dec_lt (key i) top) [ yes l ↦ lower_in key top size i l | no l ↦ omega (arith, lower_out key top size i (omega arith)) ]
      | more x ↦ omega arith
    ] in
    record { at_edge = record { reaches = omega arith; short = λ i p x m. omega (arith, keyed i p x) }; past = λ full. refl }

-- an order has one edge
module _ (n top : ℕ) (key size : ℕ → ℕ) (q : ℕ) where
  -- no edge is below another while something is left unfilled
  not_below : (m left m' left' : ℕ) → AtEdge n key size q m left → AtEdge n key size q m' left' → q < sum_to size n → m < m' → ⊥
  not_below m left m' left' a b h l =
      let beyond : ℕ → ℕ = λ i. size i - lower key m size i in
      let split : sum_to size n ≡ sum_to (lower key m size) n + sum_to beyond n =
      sum_add (lower key m size) beyond n (λ i p. omega (arith, lower_most key m size i)) in
      let (i, p, x) = sum_found beyond n (omega (arith, a.reaches)) in
      let far : m ≤ key i = elim (dec_lt (key i) m) [ yes k ↦ absurd (omega (arith, lower_in key m size i k)) | no k ↦ omega arith ] in
      omega (arith, a.short i p (omega arith) far, sum_most n (λ j _. lower_grows key (suc m) m' size j l), b.reaches)

  pub edge_one : (m left m' left' : ℕ) → EdgeAt n top key size q m left → EdgeAt n top key size q m' left' → (m ≡ m') × (left ≡ left')
  edge_one m left m' left' a b =
      let same_key : m ≡ m' = elim (dec_lt q (sum_to size n)) [
        | yes h ↦ elim (order m m') [
          | less l ↦ absurd (not_below m left m' left' a.at_edge b.at_edge h l)
          | equal l ↦ l
          | more l ↦ absurd (not_below m' left' m left b.at_edge a.at_edge h l)
        ]
        | no h ↦ a.past (omega arith) ∙ sym (b.past (omega arith))
      ] in
      (same_key, omega (arith, a.at_edge.reaches, rw (← same_key) at b.at_edge.reaches))
