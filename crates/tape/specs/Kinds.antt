-- The table of events: what holds of every row holds of the form behind any event number.
use Rattle.std.specs.Prelude.{◌≡◌, refl, ◌⊎◌, List, [], ◌∷◌, ℕ}
use Rattle.std.proofs.Common.{inl, inr, ⊎_elim, eq-eqb, ne_eqb}
use Rattle.std.proofs.Math.Decide.{ℕ_discrete}
use Rattle.tape.specs.declared.Refusal.TheVariants.{NoSuchEvent}
use Rattle.tape.specs.Tape.{Form, bad, Kind, form_in}

-- what holds of each kind of a table, row by row
infixr 5 ◌also◌
pub data Each (P : ℕ → Form → Type 0) : List Kind → Type 0 where
  all : Each P []
  ◌also◌ : {k : Kind} {ks : List Kind} → P k.number k.form → Each P ks → Each P (k ∷ ks)

-- holds of the form behind every number, if it holds of 33, too
pub each_form : (P : ℕ → Form → Type 0) (ks : List Kind) (n : ℕ) → Each P ks → P n (bad NoSuchEvent) → P n (form_in ks n)
unfolding form_in
each_form P [] n all other = other
each_form P (k ∷ ks) n (row also rows) other = elim (ℕ_discrete n k.number) [
  | yes e ↦ rw (eq-eqb n k.number e, e) row
  | no d ↦ rw (ne_eqb n k.number d) (each_form P ks n rows other)
]

-- a number that is none of theirs, told row by row, as the last arm of a match knows it
abbrev pub Other : Type 0 → List Kind → ℕ → Type 0
Other so [] n = so
Other so (k ∷ ks) n = Other (so × (n ≡ k.number → ⊥)) ks n

-- 33 is another event number
pub form_33 : {so : Type 0} (ks : List Kind) (n : ℕ) → Other so ks n → (form_in ks n ≡ bad NoSuchEvent) × so
unfolding form_in
form_33 [] n other = (refl, other)
form_33 (k ∷ ks) n other =
    let rest = form_33 ks n other in
    (rw (ne_eqb n k.number rest.1.1) rest.0, rest.1.0)

-- a number that no kind of the table has
abbrev pub NoneHas : List Kind → ℕ → Type 0
NoneHas [] n = Unit {0}
NoneHas (k ∷ ks) n = (n ≡ k.number → ⊥) × NoneHas ks n

pub none_has : (ks : List Kind) (n : ℕ) → NoneHas ks n → form_in ks n ≡ bad NoSuchEvent
unfolding form_in
none_has [] n none = refl
none_has (k ∷ ks) n (d, none) = rw (ne_eqb n k.number d) (none_has ks n none)

-- what holds of each kind holds of the form behind a number, or no kind has the number
pub each_or_none : (P : ℕ → Form → Type 0) (ks : List Kind) (n : ℕ) → Each P ks → P n (form_in ks n) ⊎ NoneHas ks n
unfolding form_in
each_or_none P [] n all = inr tt
each_or_none P (k ∷ ks) n (row also rows) = elim (ℕ_discrete n k.number) [
  | yes e ↦ inl (rw (eq-eqb n k.number e, e) row)
  | no d ↦ ⊎_elim (λ p. inl (rw (ne_eqb n k.number d) p)) (λ none. inr (d, none)) (each_or_none P ks n rows)
]
