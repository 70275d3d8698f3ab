-- What tests say: each holds exactly where a proposition does.
use Rattle.std.specs.Prelude.{◌≡◌, refl, ◌↔◌, ◌⊎◌, Bool, true, false, ◌&&◌, ◌||◌, ℕ, ◌≤◌, ◌<◌, leb, ltb, eqb}
use Rattle.std.proofs.Common.{inl, inr, ⊎_elim, lt-ltb, ltb-true, le-leb, leb-true, eq-eqb, eqb-true}
use Rattle.units.specs.Tests.{◌and◌, ◌or◌, is_not, not_holds, not_fails, fails, holds_not_fails}

pub not_says : (t : Bool) → (is_not t ≡ true) ↔ (t ≡ false)
not_says t = (not_holds t, not_fails t)

pub same_says : (a b : ℕ) → (eqb a b ≡ true) ↔ (a ≡ b)
same_says a b = (eqb-true a b, eq-eqb a b)

pub less_says : (a b : ℕ) → (ltb a b ≡ true) ↔ (a < b)
less_says a b = (ltb-true a b, lt-ltb a b)

pub most_says : (a b : ℕ) → (leb a b ≡ true) ↔ (a ≤ b)
most_says a b = (leb-true a b, le-leb a b)

-- a test denied says that its proposition does not hold
pub denied_says : {a : Bool} {P : Type 0} → (a ≡ true) ↔ P → (is_not a ≡ true) ↔ (P → ⊥)
denied_says {a} p = (λ h x. holds_not_fails (p.1 x) (not_holds a h), λ f. not_fails a (fails a (λ h. f (p.0 h))))

-- two tests together say both propositions, and one or the other says one of them
pub &&-says : {a b : Bool} {P Q : Type 0} → (a ≡ true) ↔ P → (b ≡ true) ↔ Q → ((a && b) ≡ true) ↔ (P × Q)
&&-says {a = true} p q = (λ h. (p.0 refl, q.0 h), λ (x, y). q.1 y)
&&-says {a = false} p q = (λ h. absurd (holds_not_fails h refl), λ (x, y). p.1 x)

pub ||-says : {a b : Bool} {P Q : Type 0} → (a ≡ true) ↔ P → (b ≡ true) ↔ Q → ((a || b) ≡ true) ↔ (P ⊎ Q)
||-says {a = true} p q = (λ h. inl (p.0 refl), λ x. refl)
||-says {a = false} p q = (λ h. inr (q.0 h), ⊎_elim (λ x. absurd (holds_not_fails (p.1 x) refl)) q.1)

pub and_says : {a b : Bool} {P Q : Type 0} → (a ≡ true) ↔ P → (b ≡ true) ↔ Q → ((a and b) ≡ true) ↔ (P × Q)
unfolding ◌and◌
and_says {a = true} p q = (λ h. (p.0 refl, q.0 h), λ (x, y). q.1 y)
and_says {a = false} p q = (λ h. absurd (holds_not_fails h refl), λ (x, y). p.1 x)

pub or_says : {a b : Bool} {P Q : Type 0} → (a ≡ true) ↔ P → (b ≡ true) ↔ Q → ((a or b) ≡ true) ↔ (P ⊎ Q)
unfolding ◌or◌
or_says {a = true} p q = (λ h. inl (p.0 refl), λ x. refl)
or_says {a = false} p q = (λ h. inr (q.0 h), ⊎_elim (λ x. absurd (holds_not_fails (p.1 x) refl)) q.1)
