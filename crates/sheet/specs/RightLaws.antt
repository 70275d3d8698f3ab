-- The tests of a field say what is right in words, and the first wrong field is the first of which that does not hold.
use mathlib.Core.Logic.Iff
use Rattle.std.specs.Prelude.{◌≡◌, refl, ◌↔◌, ◌⊎◌, Bool, true, false, List, [], ◌∷◌, ℕ, zero, suc, ◌≤◌, ◌<◌, eqb, ltb, length, take}
use Rattle.std.proofs.Common.{sym, ◌∙◌, inl, inr, ⊎_elim, arith, ltb-true, ltb-false, eqb-true, eq-eqb, ne_eqb}
use Rattle.std.proofs.Math.Path.{ap}
use Rattle.units.specs.Tests.{◌and◌, is_not, pick, pick_yes, pick_no, picked_of_both, and_true, and_holds, not_false, holds_not_fails}
use Rattle.units.specs.Says.{same_says, and_says, or_says}
use Rattle.units.specs.Cases.{Case, first_of}
use Rattle.units.specs.CaseLaws.{case_at, none, none_before}
use Rattle.entry.specs.Numbers.{from1to}
use Rattle.entry.specs.Words.{range_says}
use Rattle.sheet.specs.Bytes.{up_to, behind, is_digit, all_digits, same}
use Rattle.sheet.specs.Line.{Right, Wrong, point, tenant_field, side_field, size_field, kind_field, price_field, life_field, buy_word, sell_word, limit_word, market_word, day_word, now_word, dash, is_tenant, is_side, is_size, is_kind, is_dollars, is_price, is_life, wrong_fields, wrong_field, fault_of, order_of, line_of}
use Rattle.sheet.specs.Words.{Without, FieldsOf, Digits, Number, Price, RightField, FirstWrong, IsWord, IsNumber}
use Rattle.sheet.specs.BytesLaws.{digit_says}
use Rattle.sheet.specs.LineLaws.{wrong_by}
use Rattle.sheet.specs.FieldLaws.{up_of, behind_of, none_behind, cut_fields, cut_last}
use Rattle.sheet.specs.ToldLaws.{up_without, up_all, up_splits}

-- the same bytes
same_are : (s t : List ℕ) → same s t ≡ true → s ≡ t
unfolding same
same_are [] [] h = refl
same_are [] (b ∷ t) h = absurd (holds_not_fails h refl)
same_are (a ∷ s) [] h = absurd (holds_not_fails h refl)
same_are (a ∷ s) (b ∷ t) h =
    let two = and_true (eqb a b) (same s t) h in
    rw (eqb-true a b two.0, same_are s t two.1)

same_self : (s : List ℕ) → same s s ≡ true
unfolding same
same_self [] = refl
same_self (a ∷ s) = and_holds (eqb a a) (same s s) (eq-eqb a a refl) (same_self s)

pub word_says : (s t : List ℕ) → (same s t ≡ true) ↔ (s ≡ t)
word_says s t = (same_are s t, λ e. rw e (same_self t))

pub digits_say : (s : List ℕ) → (all_digits s ≡ true) ↔ Digits s
unfolding all_digits
digits_say [] = (λ h i l. absurd (omega arith), λ d. refl)
digits_say (b ∷ s) =
    let rest = digits_say s in (
      λ h. cons (and_true (is_digit b) (all_digits s) h) rest,
      λ d. and_holds (is_digit b) (all_digits s) ((digit_says b).1 (d 0 (omega arith))) (rest.1 (λ i l. d (suc i) (omega arith))),
    )
  where
    cons : (is_digit b ≡ true) × (all_digits s ≡ true) → ((all_digits s ≡ true) ↔ Digits s) → Digits (b ∷ s)
    cons two rest zero l = (digit_says b).0 two.0
    cons two rest (suc i) l = rest.0 two.1 i (omega arith)

-- a number of one to k digits
number_says : (k : ℕ) (f : List ℕ) → ((from1to k (length f) and all_digits f) ≡ true) ↔ Number k f
number_says k f = Iff.trans
    (and_says (range_says k (length f)) (digits_say f))
    (λ ((some, most), digits). record { digits = digits; some = some; most = most }, λ n. ((n.some, n.most), n.digits))

pub tenant_says : (f : List ℕ) → (is_tenant f ≡ true) ↔ Number 1 f
unfolding is_tenant
tenant_says f = Iff.trans
    (and_says (same_says (length f) 1) (digits_say f))
    (λ (one, digits). record { digits = digits; some = omega arith; most = omega arith }, λ n. (omega (arith, n.some, n.most), n.digits))

pub size_says : (f : List ℕ) → (is_size f ≡ true) ↔ Number 6 f
unfolding is_size
size_says f = number_says 6 f

-- either of two words
pub side_says : (f : List ℕ) → (is_side f ≡ true) ↔ ((f ≡ buy_word) ⊎ (f ≡ sell_word))
unfolding is_side
side_says f = or_says (word_says f buy_word) (word_says f sell_word)

pub kind_says : (f : List ℕ) → (is_kind f ≡ true) ↔ ((f ≡ limit_word) ⊎ (f ≡ market_word))
unfolding is_kind
kind_says f = or_says (word_says f limit_word) (word_says f market_word)

pub life_says : (f : List ℕ) → (is_life f ≡ true) ↔ ((f ≡ day_word) ⊎ (f ≡ now_word))
unfolding is_life
life_says f = or_says (word_says f day_word) (word_says f now_word)

-- digits are no points
pub digits_without : (m : ℕ) (s : List ℕ) → (m < 48) ⊎ (57 < m) → Digits s → Without m s
digits_without m s (inl low) d i h e = omega (arith, (d i h).0)
digits_without m s (inr high) d i h e = omega (arith, (d i h).1)

pub dollars_say : (f : List ℕ) → (is_dollars f ≡ true) ↔ Price f
unfolding is_dollars
dollars_say f = Iff.trans
    (and_says (number_says 5 (up_to point f)) (and_says (same_says (length (behind point f)) 2) (digits_say (behind point f)))) (
      λ (whole, (two, part)).
          record {
            dollars = up_to point f;
            cents = behind point f;
            is = up_splits point f (there f two);
            whole = whole;
            part = part;
            two = two;
          },
      λ p. back p,
    )
  where
    there : (f : List ℕ) → length (behind point f) ≡ 2 → length (up_to point f) < length f
    there f two = go (ltb (length (up_to point f)) (length f)) refl
      where
        go : (t : Bool) → ltb (length (up_to point f)) (length f) ≡ t → length (up_to point f) < length f
        go true t = ltb-true (length (up_to point f)) (length f) t
        go false t =
            let all : up_to point f ≡ f = up_all point f (ltb-false (length (up_to point f)) (length f) t) in
            let none : behind point f ≡ [] = none_behind point f (rw all at (up_without point f)) in
            absurd (omega (arith, ap length none))

    back : Price f → Number 5 (up_to point f) × ((length (behind point f) ≡ 2) × Digits (behind point f))
    back p =
        let w : Without point p.dollars = digits_without point p.dollars (inl (omega arith)) p.whole.digits in
        rw (p.is, up_of point p.dollars p.cents w, behind_of point p.dollars p.cents w) (p.whole, (p.two, p.part))

pub price_says : (kind f : List ℕ) → (is_price kind f ≡ true) ↔ (((kind ≡ limit_word) × Price f) ⊎ ((kind ≡ limit_word → ⊥) × (f ≡ dash)))
unfolding is_price
price_says kind f = go (same kind limit_word) refl
  where
    go : (t : Bool) → same kind limit_word ≡ t → (pick (same kind limit_word) (is_dollars f) (same f dash) ≡ true) ↔ (((kind ≡ limit_word) × Price f) ⊎ ((kind ≡ limit_word → ⊥) × (f ≡ dash)))
    go true t =
        let is : kind ≡ limit_word = (word_says kind limit_word).0 t in (
          λ h. inl (is, (dollars_say f).0 (sym (pick_yes (is_dollars f) (same f dash) t) ∙ h)),
          λ x. pick_yes (is_dollars f) (same f dash) t ∙ ⊎_elim (λ (l, p). (dollars_say f).1 p) (λ (n, d). absurd (n is)) x,
        )
    go false t =
        let other : kind ≡ limit_word → ⊥ = λ e. holds_not_fails ((word_says kind limit_word).1 e) t in (
          λ h. inr (other, (word_says f dash).0 (sym (pick_no (is_dollars f) (same f dash) t) ∙ h)),
          λ x. pick_no (is_dollars f) (same f dash) t ∙ ⊎_elim (λ (l, p). absurd (other l)) (λ (n, d). (word_says f dash).1 d) x,
        )

-- a case that waits for a test to fail
fails_says : {a : Bool} {P : Type 0} → (a ≡ true) ↔ P → (is_not a ≡ false) ↔ P
unfolding is_not
fails_says {a} p = (λ h. p.0 (not_false a h), λ x. rw (p.1 x))

-- the first of cases is none, or one of their numbers
first_most : (most : ℕ) (cs : List Case) → ((i : ℕ) → i < length cs → (case_at cs i).number ≤ most) → first_of 0 cs ≤ most
first_most most [] f = omega arith
first_most most (c ∷ cs) f =
    picked_of_both (λ (n : ℕ). n ≤ most) c.test c.number (first_of 0 cs) (f 0 (omega arith)) (first_most most cs (λ i h. f (suc i) (omega arith)))

module _ (line : List ℕ) (fs : List (List ℕ)) (cut : FieldsOf line fs) where
  field_says : (i : ℕ) → i < 6 → ((case_at (wrong_fields line) i).test ≡ false) ↔ RightField fs i
  field_says zero h = rw (← cut_fields cut 0 (omega arith)) (fails_says (tenant_says (tenant_field line)))
  field_says (suc zero) h = rw (← cut_fields cut 1 (omega arith)) (fails_says (side_says (side_field line)))
  field_says (suc (suc zero)) h = rw (← cut_fields cut 2 (omega arith)) (fails_says (size_says (size_field line)))
  field_says (suc (suc (suc zero))) h = rw (← cut_fields cut 3 (omega arith)) (fails_says (kind_says (kind_field line)))
  field_says (suc (suc (suc (suc zero)))) h =
      rw (← cut_fields cut 3 (omega arith), ← cut_fields cut 4 (omega arith)) (fails_says (price_says (kind_field line) (price_field line)))
  field_says (suc (suc (suc (suc (suc zero))))) h = rw (← cut_last cut) (fails_says (life_says (life_field line)))
  field_says (suc (suc (suc (suc (suc (suc i)))))) h = absurd (omega arith)

  -- each field is counted from 1
  counted : (i : ℕ) → i < 6 → (case_at (wrong_fields line) i).number ≡ suc i
  counted zero h = refl
  counted (suc zero) h = refl
  counted (suc (suc zero)) h = refl
  counted (suc (suc (suc zero))) h = refl
  counted (suc (suc (suc (suc zero)))) h = refl
  counted (suc (suc (suc (suc (suc zero))))) h = refl
  counted (suc (suc (suc (suc (suc (suc i)))))) h = absurd (omega arith)

  pub wrong_within : (i : ℕ) → wrong_field line ≡ suc i → i < 6
  unfolding wrong_field
  wrong_within i e = omega (arith, first_most 6 (wrong_fields line) (λ j h. omega (arith, counted j h)))

  -- the tests before a field say that those are right
  before_say : (i : ℕ) → i ≤ 6 → (none (take i (wrong_fields line)) ≡ true) ↔ ((j : ℕ) → j < i → RightField fs j)
  before_say i h = Iff.trans (none_before (wrong_fields line) i)
      (λ f j l. (field_says j (omega arith)).0 (f j l), λ f j l. (field_says j (omega arith)).1 (f j l))

  pub all_right_says : (wrong_field line ≡ 0) ↔ ((i : ℕ) → i < 6 → RightField fs i)
  all_right_says = Iff.trans (wrong_by line).otherwise (before_say 6 (omega arith))

  pub first_wrong_says : (i : ℕ) → i < 6 → (wrong_field line ≡ suc i) ↔ FirstWrong fs i
  first_wrong_says i h =
      let by = (wrong_by line).number i h in
      let right = before_say i (omega arith) in
      let here = field_says i h in (
        λ e. let two = by.0 (e ∙ sym (counted i h)) in (h, right.0 two.0, λ r. holds_not_fails two.1 (here.1 r)),
        λ (l, f, n). by.1 (right.1 f, not_false_is (case_at (wrong_fields line) i).test (λ e. n (here.0 e))) ∙ counted i h,
      )
    where
      not_false_is : (t : Bool) → (t ≡ false → ⊥) → t ≡ true
      not_false_is true n = refl
      not_false_is false n = absurd (n refl)

-- what a line says, by its first wrong field
module _ (line : List ℕ) where
  pub right_says : wrong_field line ≡ 0 → line_of line ≡ Right (order_of line)
  unfolding line_of
  right_says e = pick_yes _ _ (eq-eqb (wrong_field line) 0 e)

  pub wrong_says : (i : ℕ) → wrong_field line ≡ suc i → line_of line ≡ Wrong (fault_of (suc i))
  unfolding line_of
  wrong_says i e = pick_no _ _ (ne_eqb (wrong_field line) 0 (λ z. omega arith)) ∙ ap (λ (n : ℕ). Wrong (fault_of n)) e

pub word_fault : (i : ℕ) → IsWord i → fault_of (suc i) ≡ 43
unfolding fault_of pick
word_fault i (inl e) = rw e
word_fault i (inr (inl e)) = rw e
word_fault i (inr (inr e)) = rw e

pub number_fault : (i : ℕ) → IsNumber i → fault_of (suc i) ≡ 44
unfolding fault_of pick
number_fault i (inl e) = rw e
number_fault i (inr (inl e)) = rw e
number_fault i (inr (inr e)) = rw e

-- a field is a word or a number
pub word_or_number : (i : ℕ) → i < 6 → IsWord i ⊎ IsNumber i
word_or_number zero h = inr (inl refl)
word_or_number (suc zero) h = inl (inl refl)
word_or_number (suc (suc zero)) h = inr (inr (inl refl))
word_or_number (suc (suc (suc zero))) h = inl (inr (inl refl))
word_or_number (suc (suc (suc (suc zero)))) h = inr (inr (inr refl))
word_or_number (suc (suc (suc (suc (suc zero))))) h = inl (inr (inr refl))
word_or_number (suc (suc (suc (suc (suc (suc i)))))) h = absurd (omega arith)
