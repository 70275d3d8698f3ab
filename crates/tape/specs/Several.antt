-- Several numbers of a tape, one after the other, with no question asked of them.
use Rattle.std.specs.Prelude.{◌≡◌, refl, List, [], ◌∷◌, ◌++◌, length, take, drop, set, Some, Result, Ok, Err}
use Rattle.std.proofs.Common.{sym, ap, ◌∙◌, lt-suc_self, take-append-drop, drop_of_length-le, take_all}
use Prim.Native.Nat.{ℕ, zero, suc, ◌+◌, ◌-◌, ◌≤◌, ◌<◌}
use Rattle.std.proofs.Math.Numerals.{add-one}
use native.Mathlib.Omega.{arith}
use Rattle.std.proofs.lemmas.List.Edits.{sets}
use Rattle.std.proofs.Math.Seq.{drop-cons, take-suc-set, drop-set-lt, append_snoc}
use Rattle.numeral.specs.declared.Refusal as number
use Rattle.numeral.specs.Number.{Number as Numeral, number_at}
use Rattle.numeral.specs.Window.{answer, is_read, is_refused}
use Rattle.tape.specs.declared.Event.{Event}
use Rattle.tape.specs.declared.Refusal.TheVariants.{Number}
use Rattle.tape.specs.declared.Refused.{Refused}
use Rattle.tape.specs.Tape.{Reading, refusal_at, whole, numbers, reading, numbers_at, after, stored}

-- the place after so many numbers, or the refusal of the first that is refused, with its place
abbrev pub Several : Type 0
Several = Result ℕ Refused

unfoldable pub several_at : ℕ → List ℕ → ℕ → Several
several_at zero s at = Ok at
several_at (suc n) s at = after (number_at s at) (λ v next. several_at n s next) (λ why. Err (refusal_at (Number why) at))

-- the numbers themselves, up to the first that is refused
unfoldable pub values_at : ℕ → List ℕ → ℕ → List ℕ
values_at zero s at = []
values_at (suc n) s at = after (number_at s at) (λ v next. v ∷ values_at n s next) (λ why. [])

-- what the code has in hand of a number that was refused, or read: the answer, and what it is
module _ (s : List ℕ) (at : ℕ) {n : Numeral} (is : n ≡ number_at s at) where
  pub refused : {why : number.Refusal} → n ≡ Err why → number_at s at ≡ Err why
  refused p = sym is ∙ p

  pub read : {v next : ℕ} → n ≡ Ok (v, next) → number_at s at ≡ Ok (v, next)
  read p = sym is ∙ p

-- the answer where i of n numbers are read, and the next is at `at`
module _ (n i : ℕ) (s : List ℕ) (at : ℕ) where
  pub several_more : {v next : ℕ} → i < n → number_at s at ≡ Ok (v, next) → several_at (n - i) s at ≡ several_at (n - (i + 1)) s next
  unfolding several_at
  several_more h p = let e : n - i ≡ suc (n - (i + 1)) = omega arith in rw (e, p)

  pub several_refused : {k : number.Refusal} → i < n → number_at s at ≡ Err k → several_at (n - i) s at ≡ Err (refusal_at (Number k) at)
  unfolding several_at
  several_refused h p = let e : n - i ≡ suc (n - (i + 1)) = omega arith in rw (e, p)

  pub several_end : n ≤ i → several_at (n - i) s at ≡ Ok at
  unfolding several_at
  several_end h = let e : n - i ≡ 0 = omega arith in rw e

stored_nowhere : (vs : List ℕ) → stored vs [] ≡ []
unfolding stored
stored_nowhere [] = refl
stored_nowhere (v ∷ vs) = refl

-- the memory stays as long as it was
pub stored_long : (vs out : List ℕ) → length (stored vs out) ≡ length out
unfolding stored
stored_long [] out = refl
stored_long (v ∷ vs) [] = refl
stored_long (v ∷ vs) (x ∷ out) = ap suc (stored_long vs out)

-- numbers that the memory holds stand at its front, and the rest is as found
pub stored_front : (vs out : List ℕ) → length vs ≤ length out → stored vs out ≡ vs ++ drop (length vs) out
unfolding stored
stored_front [] out h = refl
stored_front (v ∷ vs) [] h = absurd (omega arith)
stored_front (v ∷ vs) (x ∷ out) h = ap (λ (l : List ℕ). v ∷ l) (stored_front vs out (omega arith))

-- it is a run of stores from the first place on
pub stored_sets : (vs out : List ℕ) → sets out 0 vs ≡ stored vs out
unfolding stored
stored_sets [] out = refl
stored_sets (v ∷ vs) [] = nowhere vs 1
  where
    nowhere : (ws : List ℕ) (i : ℕ) → sets [] i ws ≡ []
    nowhere [] i = refl
    nowhere (w ∷ ws) i = nowhere ws (suc i)
stored_sets (v ∷ vs) (x ∷ out) = behind vs out 0 ∙ ap (λ (l : List ℕ). v ∷ l) (stored_sets vs out)
  where
    behind : (ws l : List ℕ) (i : ℕ) → sets (v ∷ l) (suc i) ws ≡ v ∷ sets l i ws
    behind [] l i = refl
    behind (w ∷ ws) l i = behind ws (set l i w) (suc i)

-- the lent memory where i of n numbers are stored, and the next is at `at`
module _ (n i : ℕ) (s : List ℕ) (at : ℕ) (out : List ℕ) where
  abbrev pub Stored : List ℕ
  Stored = take i out ++ stored (values_at (n - i) s at) (drop i out)

  pub stored_more :
      {v next : ℕ} → i < n → i < length out → number_at s at ≡ Ok (v, next) →
      Stored ≡ take (i + 1) (set out i v) ++ stored (values_at (n - (i + 1)) s next) (drop (i + 1) (set out i v))
  unfolding stored values_at
  stored_more {v} {next} l h p =
      let e : n - i ≡ suc (n - (i + 1)) = omega arith in
      rw (e, p, drop-cons out i 0 h, add-one, take-suc-set out i v h, drop-set-lt (suc i) out i v (lt-suc_self i)) (sym (append_snoc (take i out) v _))

  pub stored_past :
      (next : ℕ) → length out ≤ i →
      Stored ≡ take (i + 1) out ++ stored (values_at (n - (i + 1)) s next) (drop (i + 1) out)
  stored_past next h =
      rw (drop_of_length-le out h, stored_nowhere, take_all i out h) (
      rw (drop_of_length-le out {i = i + 1} (omega arith), stored_nowhere, take_all (i + 1) out (omega arith))
      )

  pub stored_refused : {k : number.Refusal} → i < n → number_at s at ≡ Err k → Stored ≡ out
  unfolding stored values_at
  stored_refused l p = let e : n - i ≡ suc (n - (i + 1)) = omega arith in rw (e, p) (take-append-drop i out)

  pub stored_end : n ≤ i → Stored ≡ out
  unfolding stored values_at
  stored_end l = let e : n - i ≡ 0 = omega arith in rw e (take-append-drop i out)

-- the event that several numbers make, answered as an event is
abbrev pub after_several : Several → Event → Reading
after_several (Ok end) e = Ok (Some (e, end))
after_several (Err r) e = Err r

-- an event that so many numbers make is read where they are
pub reading_several :
    (n : ℕ) (f : List ℕ → Event) (s : List ℕ) (last at : ℕ) →
    reading (numbers n (λ vs. whole (f vs))) s last at ≡ after_several (several_at n s at) (f (values_at n s at))
unfolding reading numbers several_at values_at
reading_several zero f s last at = refl
reading_several (suc n) f s last at =
    elim (answer (number_at s at)) [
      | is_read v next e ↦ rw e (reading_several n (λ vs. f (v ∷ vs)) s at next)
      | is_refused why e ↦ rw e
    ]

-- and its numbers are theirs
pub numbers_several :
    (n : ℕ) (f : List ℕ → Event) (s : List ℕ) (at : ℕ) → numbers_at (numbers n (λ vs. whole (f vs))) s at ≡ values_at n s at
unfolding numbers_at numbers values_at
numbers_several zero f s at = refl
numbers_several (suc n) f s at =
    elim (answer (number_at s at)) [
      | is_read v next e ↦ rw e (ap (λ (l : List ℕ). v ∷ l) (numbers_several n (λ vs. f (v ∷ vs)) s next))
      | is_refused why e ↦ rw e
    ]
