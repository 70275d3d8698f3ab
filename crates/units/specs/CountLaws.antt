-- A test that holds exactly where a place has a property counts how many have it.
use Rattle.std.specs.Prelude.{◌≡◌, ◌↔◌, Bool}
use Rattle.std.proofs.Math.Path.{refl}
use Rattle.std.proofs.Common.{ap}
use Rattle.std.proofs.Math.Bool.{true, false}
use Prim.Native.Nat.{ℕ, zero, suc, ◌+◌}
use Rattle.std.proofs.Math.Nat.{add-zero}
use Rattle.std.proofs.Math.Numerals.{add-one}
use Rattle.units.specs.Tests.{holds_not_fails}
use Rattle.units.specs.Sums.{sum_to}
use Rattle.units.specs.Picked.{keep}
use Rattle.units.specs.Counts.{count_to, HowMany, of_none, one_more, no_more}

module _ (P : ℕ → Type 0) where
  pub counts : (p : ℕ → Bool) → ((i : ℕ) → (p i ≡ true) ↔ P i) → (n : ℕ) → HowMany P n (count_to p n)
  unfolding sum_to
  counts p says zero = of_none
  counts p says (suc n) = go (p n) refl (counts p says n)
    where
      go : (b : Bool) → p n ≡ b → HowMany P n (count_to p n) → HowMany P (suc n) (count_to p n + keep b 1)
      go true h c = rw add-one (one_more ((says n).0 h) c)
      go false h c = rw add-zero (no_more (λ x. holds_not_fails ((says n).1 x) h) c)

  -- and no other number is that many
  pub one_count : {n k l : ℕ} → HowMany P n k → HowMany P n l → k ≡ l
  one_count of_none of_none = refl
  one_count (one_more x h) (one_more y g) = ap suc (one_count h g)
  one_count (one_more x h) (no_more f g) = absurd (f x)
  one_count (no_more f h) (one_more y g) = absurd (f y)
  one_count (no_more f h) (no_more e g) = one_count h g
