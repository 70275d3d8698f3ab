-- Numbers given in order: each exactly in its case, the first that applies.
use Rattle.std.specs.Prelude.{◌≡◌, ◌↔◌, ◌⊎◌, List, [], ◌∷◌, ℕ, zero, suc, ◌<◌, length, take}

-- a number and the case in which it is given
pub record Rule : Type 1 where
  pub number : ℕ
  pub case : Type 0

infix 2 ◌if◌
abbrev pub ◌if◌ : ℕ → Type 0 → Rule
n if p = record { number = n; case = p }

-- rule i of a list, and past the end a rule that never applies
abbrev pub rule_at : List Rule → ℕ → Rule
rule_at [] i = 0 if ⊥
rule_at (r ∷ rs) zero = r
rule_at (r ∷ rs) (suc i) = rule_at rs i

-- none of them applies
abbrev pub NoneOf : List Rule → Type 0
NoneOf [] = Unit
NoneOf (r ∷ rs) = (r.case → ⊥) × NoneOf rs

-- Each number is given exactly in its case, in order: where its own case holds and none before it. What is otherwise is
-- so exactly where no case holds; and no other number is given.
pub record GivenInOrder (rules : List Rule) (gives : ℕ → Type 0) (otherwise : Type 0) : Type 0 where
  pub each : (i : ℕ) → i < length rules → gives (rule_at rules i).number ↔ (NoneOf (take i rules) × (rule_at rules i).case)
  pub none : otherwise ↔ NoneOf rules
  pub only : (n : ℕ) → gives n → otherwise ⊎ ((i : ℕ) × (i < length rules) × (n ≡ (rule_at rules i).number))
