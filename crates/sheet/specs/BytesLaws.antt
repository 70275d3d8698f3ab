-- The loops over the bytes of a line: what is left to be found, asked and read is that of the bytes that are left.
use Rattle.std.specs.Prelude.{◌≡◌, ◌↔◌, Bool, ℕ, suc, ◌+◌, ◌-◌, ◌*◌, ◌^◌, ◌≤◌, ◌<◌, eqb}
use Rattle.std.proofs.Math.Path.{refl, sym, ap}
use Rattle.std.proofs.Common.{◌∙◌, add-one, eq-eqb, ne_eqb, length-drop, take_all, drop-cons}
use Rattle.std.proofs.Math.Bool.{true, false}
use mathlib.Core.List.{List, [], ◌∷◌}
use Rattle.std.proofs.Math.Nat.{pow-succ', pow-le-pow_right}
use native.Mathlib.Omega.{arith}
use Rattle.std.proofs.Math.ListN.{length, take, drop, drop_of_length-le}
use Rattle.units.specs.Tests.{◌and◌, pick, picked, and_true}
use Rattle.units.specs.Says.{most_says, and_says}
use Rattle.units.specs.Places.{at}
use Rattle.units.specs.Decimal.{read_on, value_of}
use Rattle.sheet.specs.Bytes.{up_to, behind, is_digit, all_digits, same}

-- the byte at a place, and those behind it
next : (s : List ℕ) (i : ℕ) → i < length s → drop i s ≡ at s i ∷ drop (i + 1) s
next s i h = rw add-one (drop-cons s i 0 h)

module _ (mark : ℕ) where
  -- a mark that stands in front, and a byte that is none
  up_here : (b : ℕ) (s : List ℕ) → b ≡ mark → up_to mark (b ∷ s) ≡ []
  unfolding up_to pick
  up_here b s e = rw (eq-eqb b mark e)

  up_past : (b : ℕ) (s : List ℕ) → (b ≡ mark → ⊥) → up_to mark (b ∷ s) ≡ b ∷ up_to mark s
  unfolding up_to pick
  up_past b s n = rw (ne_eqb b mark n)

  -- the search: no byte passed is a mark
  abbrev pub Sought : List ℕ → ℕ → Type 0
  Sought s i = (i ≤ length s) × (length (up_to mark s) ≡ i + length (up_to mark (drop i s)))

  pub seek_starts : (s : List ℕ) → Sought s 0
  seek_starts s = (omega arith, omega arith)

  module _ (s : List ℕ) (i : ℕ) (g : Sought s i) where
    pub seek_finds : i < length s → at s i ≡ mark → i ≡ length (up_to mark s)
    seek_finds h e = omega (arith, g.1, ap (λ (l : List ℕ). length (up_to mark l)) (next s i h), ap length (up_here (at s i) (drop (i + 1) s) e))

    pub seek_goes_on : i < length s → (at s i ≡ mark → ⊥) → Sought s (i + 1)
    seek_goes_on h n = (omega arith, omega (arith, g.1, ap (λ (l : List ℕ). length (up_to mark l)) (next s i h), ap length (up_past (at s i) (drop (i + 1) s) n)))

    pub seek_ends : length s ≤ i → i ≡ length (up_to mark s)
    unfolding up_to
    seek_ends h = omega (arith, g.1, ap (λ (l : List ℕ). length (up_to mark l)) (drop_of_length-le s h))

  -- they stand in front,
  pub up_front : (s : List ℕ) → take (length (up_to mark s)) s ≡ up_to mark s
  unfolding up_to
  up_front [] = refl
  up_front (b ∷ s) = picked (λ (l : List ℕ). take (length l) (b ∷ s) ≡ l) (eqb b mark) [] (b ∷ up_to mark s) (λ _. refl) (λ _. ap (λ (l : List ℕ). b ∷ l) (up_front s))

  pub up_within : (s : List ℕ) → length (up_to mark s) ≤ length s
  unfolding up_to
  up_within [] = omega arith
  up_within (b ∷ s) = picked (λ (l : List ℕ). length l ≤ length (b ∷ s)) (eqb b mark) [] (b ∷ up_to mark s) (λ _. omega arith) (λ _. omega (arith, up_within s))

  -- and the mark with the bytes behind it follows
  pub behind_is : (s : List ℕ) → length (up_to mark s) < length s → drop (suc (length (up_to mark s))) s ≡ behind mark s
  unfolding up_to behind pick
  behind_is [] h = refl
  behind_is (b ∷ s) h = go (eqb b mark) (behind_is s) h
    where
      go :
          (t : Bool) → (length (up_to mark s) < length s → drop (suc (length (up_to mark s))) s ≡ behind mark s) → length (pick t [] (b ∷ up_to mark s)) < length (b ∷ s) →
          drop (suc (length (pick t [] (b ∷ up_to mark s)))) (b ∷ s) ≡ pick t s (behind mark s)
      go true rest h = refl
      go false rest h = rest (omega arith)

  none : (s : List ℕ) → length s ≤ length (up_to mark s) → drop (length (up_to mark s)) s ≡ behind mark s
  unfolding up_to behind pick
  none [] h = refl
  none (b ∷ s) h = go (eqb b mark) (none s) h
    where
      go :
          (t : Bool) → (length s ≤ length (up_to mark s) → drop (length (up_to mark s)) s ≡ behind mark s) → length (b ∷ s) ≤ length (pick t [] (b ∷ up_to mark s)) →
          drop (length (pick t [] (b ∷ up_to mark s))) (b ∷ s) ≡ pick t s (behind mark s)
      go true rest h = absurd (omega arith)
      go false rest h = rest (omega arith)

  -- so as a part of the bytes, from a place on
  module _ (s : List ℕ) (n : ℕ) (is : n ≡ length (up_to mark s)) where
    pub behind_there : n < length s → take (length s - (n + 1)) (drop (n + 1) s) ≡ behind mark s
    behind_there h = take_all (length s - (n + 1)) (drop (n + 1) s) (omega (arith, length-drop (n + 1) s)) ∙ rw (add-one, is) (behind_is s (omega arith))

    pub behind_none : length s ≤ n → take (length s - n) (drop n s) ≡ behind mark s
    behind_none h = take_all (length s - n) (drop n s) (omega (arith, length-drop n s)) ∙ rw is (none s (omega arith))

-- every byte passed is a digit
abbrev pub Asked : List ℕ → ℕ → Type 0
Asked s i = (i ≤ length s) × (all_digits s ≡ all_digits (drop i s))

pub ask_starts : (s : List ℕ) → Asked s 0
ask_starts s = (omega arith, refl)

module _ (s : List ℕ) (i : ℕ) (g : Asked s i) where
  asked_next : i < length s → all_digits s ≡ (is_digit (at s i) and all_digits (drop (i + 1) s))
  unfolding all_digits
  asked_next h = g.1 ∙ rw (next s i h)

  pub ask_goes_on : i < length s → is_digit (at s i) ≡ true → Asked s (i + 1)
  unfolding ◌and◌
  ask_goes_on h t = (omega arith, asked_next h ∙ rw t)

  pub ask_fails : i < length s → is_digit (at s i) ≡ false → false ≡ all_digits s
  unfolding ◌and◌
  ask_fails h t = sym (asked_next h ∙ rw t)

  pub ask_ends : length s ≤ i → true ≡ all_digits s
  unfolding all_digits
  ask_ends h = sym (g.1 ∙ rw (drop_of_length-le s h))

-- a digit by its bounds
pub digit_says : (b : ℕ) → (is_digit b ≡ true) ↔ ((48 ≤ b) × (b ≤ 57))
unfolding is_digit
digit_says b = and_says (most_says 48 b) (most_says b 57)

-- so many digits spell a number below the power of ten
below_on : (p v : ℕ) (s : List ℕ) → v < 10 ^ p → all_digits s ≡ true → read_on v s < 10 ^ (p + length s)
unfolding read_on all_digits
below_on p v [] h digits = let e : p + 0 ≡ p = omega arith in rw e h
below_on p v (b ∷ s) h digits =
    let two = and_true (is_digit b) (all_digits s) digits in
    let e : p + suc (length s) ≡ suc p + length s = omega arith in
    rw e (below_on (suc p) (10 * v + (b - 48)) s (rw (pow-succ' 10 p) (omega (arith, (digit_says b).0 two.0))) two.1)

pub value_below : (most : ℕ) (s : List ℕ) → all_digits s ≡ true → length s ≤ most → value_of s < 10 ^ most
value_below most s digits few =
    let e : 0 + length s ≡ length s = omega arith in
    omega (arith, rw e at (below_on 0 0 s (omega arith) digits), pow-le-pow_right {n = 10} (omega arith) few)

-- the number that the digits passed spell
pub record Read (s : List ℕ) (i v : ℕ) : Type 0 where
  pub within : i ≤ length s
  pub digits : all_digits (drop i s) ≡ true
  pub small : v < 10 ^ i
  pub reads : value_of s ≡ read_on v (drop i s)

pub read_starts : (s : List ℕ) → all_digits s ≡ true → Read s 0 0
read_starts s h = record { within = omega arith; digits = h; small = omega arith; reads = refl }

module _ (s : List ℕ) (i v : ℕ) (g : Read s i v) where
  module _ (h : i < length s) where
    both_digits : (is_digit (at s i) ≡ true) × (all_digits (drop (i + 1) s) ≡ true)
    unfolding all_digits
    both_digits = and_true (is_digit (at s i)) (all_digits (drop (i + 1) s)) (rw (next s i h) at g.digits)

    pub read_digit : (48 ≤ at s i) × (at s i ≤ 57)
    read_digit = (digit_says (at s i)).0 both_digits.0

    pub read_fits : length s ≤ 9 → 10 * v + 9 < 4294967296
    read_fits few = omega (arith, g.small, pow-le-pow_right {n = 10} (omega arith) {i = i} {j = 8} (omega arith))

    pub read_goes_on : Read s (i + 1) (10 * v + (at s i - 48))
    unfolding read_on
    read_goes_on = record {
      within = omega arith;
      digits = both_digits.1;
      small = rw (add-one, pow-succ' 10 i) (omega (arith, g.small, read_digit));
      reads = g.reads ∙ rw (next s i h);
    }

  pub read_ends : length s ≤ i → v ≡ value_of s
  unfolding read_on
  read_ends h = sym (g.reads ∙ rw (drop_of_length-le s h))

-- the bytes passed are the same
abbrev pub Compared : List ℕ → List ℕ → ℕ → Type 0
Compared s t i = (length s ≡ length t) × (i ≤ length t) × (same s t ≡ same (drop i s) (drop i t))

pub compare_starts : (s t : List ℕ) → length s ≡ length t → Compared s t 0
compare_starts s t h = (h, omega arith, refl)

pub other_length : (s t : List ℕ) → (length s ≡ length t → ⊥) → false ≡ same s t
unfolding same ◌and◌
other_length [] [] n = absurd (n refl)
other_length [] (b ∷ t) n = refl
other_length (a ∷ s) [] n = refl
other_length (a ∷ s) (b ∷ t) n = go (eqb a b) (other_length s t (λ e. n (ap suc e)))
  where
    go : (x : Bool) → false ≡ same s t → false ≡ (x and same s t)
    go true rest = rest
    go false rest = refl

module _ (s t : List ℕ) (i : ℕ) (g : Compared s t i) where
  compared_next : i < length t → same s t ≡ (eqb (at s i) (at t i) and same (drop (i + 1) s) (drop (i + 1) t))
  unfolding same
  compared_next h = g.2 ∙ rw (next s i (omega arith), next t i h)

  pub compare_goes_on : i < length t → at s i ≡ at t i → Compared s t (i + 1)
  unfolding ◌and◌
  compare_goes_on h e = (g.0, omega arith, compared_next h ∙ rw (eq-eqb (at s i) (at t i) e))

  pub compare_fails : i < length t → (at s i ≡ at t i → ⊥) → false ≡ same s t
  unfolding ◌and◌
  compare_fails h n = sym (compared_next h ∙ rw (ne_eqb (at s i) (at t i) n))

  pub compare_ends : length t ≤ i → true ≡ same s t
  unfolding same
  compare_ends h = sym (g.2 ∙ rw (drop_of_length-le s {i = i} (omega arith), drop_of_length-le t h))
