-- The fields of a line: each line is cut at its first spaces in one way, and the fields of the definitions are those.
use Rattle.std.specs.Prelude.{◌≡◌, Bool, true, false, ℕ, zero, suc, ◌<◌, ltb, length}
use Rattle.std.proofs.Math.Path.{refl}
use Rattle.std.proofs.Common.{ap, arith, ltb-true, ltb-false, eq-eqb, ne_eqb}
use mathlib.Core.List.{List, [], ◌∷◌, ◌++◌}
use Rattle.units.specs.Tests.{pick}
use Rattle.sheet.specs.Bytes.{up_to, behind}
use Rattle.sheet.specs.Line.{space, rest_at, field_at}
use Rattle.sheet.specs.Words.{Without, Cut, all_rest, to_end, to_space, nth}
use Rattle.sheet.specs.ToldLaws.{up_without, up_all, up_splits}

module _ (m : ℕ) where
  -- bytes without a mark, with one behind them or none
  pub up_of : (f s : List ℕ) → Without m f → up_to m (f ++ (m ∷ s)) ≡ f
  unfolding up_to pick
  up_of [] s w = rw (eq-eqb m m refl)
  up_of (b ∷ f) s w = rw (ne_eqb b m (w 0 (omega arith))) (ap (λ (l : List ℕ). b ∷ l) (up_of f s (λ i h. w (suc i) (omega arith))))

  pub behind_of : (f s : List ℕ) → Without m f → behind m (f ++ (m ∷ s)) ≡ s
  unfolding behind pick
  behind_of [] s w = rw (eq-eqb m m refl)
  behind_of (b ∷ f) s w = rw (ne_eqb b m (w 0 (omega arith))) (behind_of f s (λ i h. w (suc i) (omega arith)))

  pub up_whole : (s : List ℕ) → Without m s → up_to m s ≡ s
  unfolding up_to pick
  up_whole [] w = refl
  up_whole (b ∷ s) w = rw (ne_eqb b m (w 0 (omega arith))) (ap (λ (l : List ℕ). b ∷ l) (up_whole s (λ i h. w (suc i) (omega arith))))

  pub none_behind : (s : List ℕ) → Without m s → behind m s ≡ []
  unfolding behind pick
  none_behind [] w = refl
  none_behind (b ∷ s) w = rw (ne_eqb b m (w 0 (omega arith))) (none_behind s (λ i h. w (suc i) (omega arith)))

-- behind nothing stands nothing
rest_of_none : (i : ℕ) → rest_at i [] ≡ []
unfolding rest_at behind
rest_of_none zero = refl
rest_of_none (suc i) = rest_of_none i

-- the fields before the last, each up to its space, and the last
pub cut_fields : {n : ℕ} {line : List ℕ} {fs : List (List ℕ)} → Cut n line fs → (i : ℕ) → i < n → field_at i line ≡ nth fs i
unfolding field_at rest_at up_to
cut_fields all_rest i h = absurd (omega arith)
cut_fields (to_end {s = s} w) zero h = up_whole space s w
cut_fields (to_end {s = s} w) (suc i) h = rw (none_behind space s w, rest_of_none i)
cut_fields (to_space {f = f} {s = s} w c) zero h = up_of space f s w
cut_fields (to_space {f = f} {s = s} w c) (suc i) h = rw (behind_of space f s w) (cut_fields c i (omega arith))

pub cut_last : {n : ℕ} {line : List ℕ} {fs : List (List ℕ)} → Cut n line fs → rest_at n line ≡ nth fs n
unfolding rest_at
cut_last all_rest = refl
cut_last (to_end {n = n} {s = s} w) = rw (none_behind space s w) (rest_of_none n)
cut_last (to_space {f = f} {s = s} w c) = rw (behind_of space f s w) (cut_last c)

-- any line can be cut
pub cuts : (n : ℕ) (line : List ℕ) → (fs : List (List ℕ)) × Cut n line fs
cuts zero line = (line ∷ [], all_rest)
cuts (suc n) line = go (ltb (length (up_to space line)) (length line)) refl (cuts n (behind space line))
  where
    go :
        (t : Bool) → ltb (length (up_to space line)) (length line) ≡ t → ((fs : List (List ℕ)) × Cut n (behind space line) fs) →
        (fs : List (List ℕ)) × Cut (suc n) line fs
    go true t c = (
      up_to space line ∷ c.0,
      rw (up_splits space line (ltb-true (length (up_to space line)) (length line) t)) (rw (up_of space (up_to space line) (behind space line) (up_without space line)) (to_space (up_without space line) c.1)),
    )
    go false t c =
        let all : up_to space line ≡ line = up_all space line (ltb-false (length (up_to space line)) (length line) t) in
        (line ∷ [], to_end (rw all at (up_without space line)))
