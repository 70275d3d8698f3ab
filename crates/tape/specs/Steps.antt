-- The cases of the definitions, as the reader meets them: each return by what the numbers before it gave.
use Rattle.std.specs.Prelude.{◌≡◌, refl, true, false, List, [], ◌∷◌, ℕ, zero, suc, ◌*◌, ◌≤◌, ◌<◌, length, drop, Some, None, Ok, Err}
use Rattle.std.proofs.Math.Path.{sym}
use Rattle.std.proofs.Common.{ap, ◌∙◌, append-nil, arith, lt-ltb, le-ltb, ne_eqb, drop_of_length-le}
use Rattle.numeral.specs.declared.Refusal as number
use Rattle.numeral.specs.Number.{number_at}
use Rattle.numeral.specs.Window.{missing, answer, is_read, is_refused}
use Rattle.entry.specs.Numbers.{entry_numbers, bulk, from1to}
use Rattle.tape.specs.declared.Event.{Event}
use Rattle.tape.specs.declared.Event.TheVariants.{Submit}
use Rattle.tape.specs.declared.Refusal.TheVariants.{Number, NoSuchEvent, NoSuchCount}
use Rattle.tape.specs.declared.Refused.{Refused}
use Rattle.tape.specs.Tape.{Reading, refusal_at, Form, whole, bad, numbers, entries, submit, kinds, form_in, form_of, event, reading, event_at, numbers_at, entries_of, stored, entries_after}
use Rattle.tape.specs.Kinds.{Other, form_33}
use Rattle.tape.specs.Several.{Several, several_at, values_at, after_several, stored_front, reading_several, numbers_several}

-- where all are read, they are so many
several_whole : (n : ℕ) (s : List ℕ) (at : ℕ) {end : ℕ} → several_at n s at ≡ Ok end → length (values_at n s at) ≡ n
unfolding several_at values_at
several_whole zero s at e = refl
several_whole (suc n) s at {end} e =
    elim (answer (number_at s at)) [
      | is_read v next p ↦ rw p (ap suc (several_whole n s next (rw p at e)))
      | is_refused why p ↦ absurd (refused_whole (refusal_at (Number why) at) end (rw p at e))
    ]
  where
    refused_whole : (r : Refused) (end : ℕ) → ◌≡◌ {A = Several} (Err r) (Ok end) → ⊥
    refused_whole r end q = cc

-- an event of so many numbers is made of those that were stored in memory that holds as many
pub numbers_read :
    (n : ℕ) (f : List ℕ → Event) (s : List ℕ) (last at : ℕ) (out : List ℕ) → length out ≡ n →
    {all : Several} {values : List ℕ} {e : Event} {r : Reading} → all ≡ several_at n s at → values ≡ stored (values_at n s at) out →
    e ≡ f values → r ≡ after_several all e → r ≡ reading (numbers n (λ v. whole (f v))) s last at
numbers_read n f s last at out h p q m is = rw (is, p, m, q) (go (several_at n s at) refl ∙ sym (reading_several n f s last at))
  where
    go :
        (r : Several) → several_at n s at ≡ r →
        after_several r (f (stored (values_at n s at) out)) ≡ after_several r (f (values_at n s at))
    go (Ok end) e =
        let fits : length (values_at n s at) ≡ length out = several_whole n s at e ∙ sym h in
        rw (stored_front (values_at n s at) out (omega arith), drop_of_length-le out {i = length (values_at n s at)} (omega arith), append-nil (values_at n s at))
    go (Err r) e = refl

-- the event that several numbers make, where all are read, and where one is refused
pub read_after : {all : Several} {end : ℕ} (e : Event) → all ≡ Ok end → ◌≡◌ {A = Reading} (Ok (Some (e, end))) (after_several all e)
read_after e q = rw q refl

pub refused_after : {all : Several} {r : Refused} (e : Event) → all ≡ Err r → ◌≡◌ {A = Reading} (Err r) (after_several all e)
refused_after e q = rw q refl

-- the entries, by their count
pub entries_bad : (tenant count : ℕ) → from1to bulk count ≡ false → entries tenant count ≡ bad NoSuchCount
unfolding entries
entries_bad tenant count f = rw f

pub entries_several :
    (tenant count : ℕ) → from1to bulk count ≡ true →
    entries tenant count ≡ numbers (entry_numbers * count) (λ v. whole (Submit tenant count))
unfolding entries
entries_several tenant count t = rw t

-- what a submit answers, and what its lent memory then holds
module _ (s : List ℕ) (at : ℕ) (out : List ℕ) where
  -- an answer, whatever was read last, and the memory
  abbrev Submits : Reading → List ℕ → Type 0
  Submits r kept = ((last : ℕ) → r ≡ reading submit s last at) × (kept ≡ stored (drop 2 (numbers_at submit s at)) out)

  pub submit_tenant : {k : number.Refusal} → number_at s at ≡ Err k → Submits (Err (refusal_at (Number k) at)) out
  unfolding reading submit numbers_at stored
  submit_tenant p = (λ last. rw p, rw p)

  pub submit_count :
      {tenant next : ℕ} {k : number.Refusal} → number_at s at ≡ Ok (tenant, next) → number_at s next ≡ Err k →
      Submits (Err (refusal_at (Number k) next)) out
  unfolding reading submit numbers_at stored
  submit_count p q = (λ last. rw (p, q), rw (p, q))

  module _ {tenant next count from : ℕ} (p : number_at s at ≡ Ok (tenant, next)) (q : number_at s next ≡ Ok (count, from)) where
    answered : (last : ℕ) → reading submit s last at ≡ reading (entries tenant count) s next from
    unfolding reading submit
    answered last = rw (p, q)

    given : drop 2 (numbers_at submit s at) ≡ numbers_at (entries tenant count) s from
    unfolding numbers_at submit
    given = rw (p, q)

    module _ {form : Form} (e : entries tenant count ≡ form) where
      answers_by : (last : ℕ) → reading submit s last at ≡ reading form s next from
      answers_by last = answered last ∙ ap (λ (g : Form). reading g s next from) e

      stores_by : stored (drop 2 (numbers_at submit s at)) out ≡ stored (numbers_at form s from) out
      stores_by = ap (λ (vs : List ℕ). stored vs out) (given ∙ ap (λ (g : Form). numbers_at g s from) e)

    pub submit_34 : from1to bulk count ≡ false → Submits (Err (refusal_at NoSuchCount next)) out
    unfolding reading numbers_at stored
    submit_34 f = (λ last. sym (answers_by (entries_bad tenant count f) last), sym (stores_by (entries_bad tenant count f)))

    pub submit_read :
        from1to bulk count ≡ true →
        Submits (after_several (several_at (entry_numbers * count) s from) (Submit tenant count)) (stored (values_at (entry_numbers * count) s from) out)
    submit_read t =
        let n : ℕ = entry_numbers * count in (
          λ last. sym (answers_by (entries_several tenant count t) last ∙ reading_several n (λ v. Submit tenant count) s next from),
          sym (stores_by (entries_several tenant count t) ∙ ap (λ (vs : List ℕ). stored vs out) (numbers_several n (λ v. Submit tenant count) s from)),
        )

-- the numbers of entries are a submit's
entries_none : (kind : ℕ) (vs : List ℕ) → (kind ≡ 3 → ⊥) → entries_of (kind ∷ vs) ≡ []
unfolding entries_of
entries_none kind [] n = refl
entries_none kind (a ∷ []) n = refl
entries_none kind (a ∷ b ∷ vs) n = rw (ne_eqb kind 3 n)

entries_submit : (vs : List ℕ) → entries_of (3 ∷ vs) ≡ drop 2 vs
unfolding entries_of
entries_submit [] = refl
entries_submit (a ∷ []) = refl
entries_submit (a ∷ b ∷ vs) = refl

-- 3 is not another event number
other_submit : form_in kinds 3 ≡ bad NoSuchEvent → ⊥
unfolding form_in submit
other_submit q = let z : ◌≡◌ {A = ℕ} 0 1 = cc in omega arith

-- what an event answers behind its number, and what the lent memory then holds
module _ (s : List ℕ) (at next : ℕ) (out : List ℕ) where
  abbrev Answers : ℕ → Reading → List ℕ → Type 0
  Answers kind r kept = (r ≡ reading (form_of kind) s at next) × (kept ≡ stored (entries_of (kind ∷ numbers_at (form_of kind) s next)) out)

  none : (kind : ℕ) → (kind ≡ 3 → ⊥) → out ≡ stored (entries_of (kind ∷ numbers_at (form_of kind) s next)) out
  unfolding stored
  none kind n = rw (entries_none kind (numbers_at (form_of kind) s next) n)

  module _ {kind : ℕ} where
    -- any but a submit leaves the memory as found
    pub by_form : (n : ℕ) {r : Reading} → kind ≡ n → (n ≡ 3 → ⊥) → r ≡ reading (form_of n) s at next → Answers kind r out
    by_form n e m is = rw e (is, none n m)

    pub by_submit : {r : Reading} {kept : List ℕ} → kind ≡ 3 → Submits s next out r kept → Answers kind r kept
    unfolding form_of form_in
    by_submit e is = rw (e, entries_submit (numbers_at submit s next)) (is.0 at, is.1)

    pub by_none : {so : Type 0} → Other so kinds kind → Answers kind (Err (refusal_at NoSuchEvent at)) out
    unfolding form_of reading
    by_none other =
        let e = (form_33 kinds kind other).0 in
        (sym (ap (λ (form : Form). reading form s at next) e), none kind (λ three. other_submit (rw three at e)))

-- what an event answers, and what the lent memory then holds
module _ (s : List ℕ) (at : ℕ) (out : List ℕ) where
  abbrev Told : Reading → List ℕ → Type 0
  Told r kept = (r ≡ event_at s at) × (kept ≡ entries_after s at out)

  pub event_end : length s ≤ at → Told (Ok None) out
  unfolding event_at entries_after event numbers_at entries_of stored
  event_end h = (rw (le-ltb at (length s) h), rw (missing s at h))

  pub event_refused : {k : number.Refusal} → at < length s → number_at s at ≡ Err k → Told (Err (refusal_at (Number k) at)) out
  unfolding event_at entries_after event reading numbers_at entries_of stored
  event_refused h p = (rw (lt-ltb at (length s) h, p), rw p)

  pub event_told :
      {kind next : ℕ} {r : Reading} {kept : List ℕ} → at < length s → number_at s at ≡ Ok (kind, next) →
      Answers s at next out kind r kept → Told r kept
  unfolding event_at entries_after event reading numbers_at
  event_told h p is = rw (lt-ltb at (length s) h, p) is
