-- The lower of two offers, an absent one ignored, in words.
use Rattle.std.specs.Prelude.{◌≡◌, refl, ◌⊎◌, Bool, true, false, ℕ, ◌≤◌, ◌<◌, min, eqb}
use Rattle.std.proofs.Common.{inl, inr, arith, eqb-true}
use Rattle.std.proofs.lemmas.Bool.{eqb-false}
use Rattle.units.specs.Tests.{pick, order, less, equal, more}
use Rattle.entry.specs.Quotes.{lower_offer}

-- it is one of the two; and where one is there it is there, and no higher
pub record Lower (a b low : ℕ) : Type 0 where
  pub one_of : (low ≡ a) ⊎ (low ≡ b)
  pub first : 0 < a → (0 < low) × (low ≤ a)
  pub second : 0 < b → (0 < low) × (low ≤ b)

lesser : (a b : ℕ) → (min a b ≡ a) ⊎ (min a b ≡ b)
lesser a b = elim (order a b) [
  | less h ↦ inl (omega arith)
  | equal h ↦ inl (omega arith)
  | more h ↦ inr (omega arith)
]

pub lower_says : (a b : ℕ) → Lower a b (lower_offer a b)
unfolding lower_offer pick
lower_says a b = go (eqb a 0) (eqb b 0) refl refl
  where
    go : (x y : Bool) → eqb a 0 ≡ x → eqb b 0 ≡ y → Lower a b (pick x b (pick y a (min a b)))
    go true y h g = let none = eqb-true a 0 h in
        record { one_of = inr refl; first = λ l. absurd (omega arith); second = λ l. (l, omega arith) }
    go false true h g = let none = eqb-true b 0 g in
        record { one_of = inl refl; first = λ l. (l, omega arith); second = λ l. absurd (omega arith) }
    go false false h g = let there = eqb-false a 0 h in let there' = eqb-false b 0 g in
        record { one_of = lesser a b; first = λ l. (omega arith, omega arith); second = λ l. (omega arith, omega arith) }
