-- What is read and the numbers that lead to it, over forms alone: no event is named here.
use Rattle.std.specs.Prelude.{◌≡◌, refl, List, [], ◌∷◌, ◌++◌, ℕ, zero, suc, ◌+◌, ◌^◌, ◌<◌, length, get_or, drop, Some, Ok}
use Rattle.std.proofs.Common.{sym, ap, ap₂, ◌∙◌, append_assoc, arith, length-append}
use Rattle.numeral.specs.Number.{number_at}
use Rattle.numeral.specs.Encode.{encode}
use Rattle.numeral.specs.Laws.{Bytes, canonical, read_placed}
use Rattle.numeral.specs.Writing.{bytes_some}
use Rattle.numeral.specs.Window.{answer, is_read, is_refused, missing, read_fits}
use Rattle.tape.specs.declared.Event.{Event}
use Rattle.numeral.specs.declared.Refusal.TheVariants.{CutShort}
use Rattle.tape.specs.declared.Refusal.TheVariants.{Number}
use Rattle.tape.specs.Tape.{Form, whole, bad, more, numbers, event, reading, numbers_at, event_at, entries_of, entries_at}
use Rattle.tape.specs.TapeLaws.{refused_read, event_same, of_form, event_of_form}

-- numbers that lead through a form to an event
abbrev pub Leads : Form → List ℕ → Event → Type 0
Leads (whole e') [] e = e' ≡ e
Leads (whole e') (v ∷ vs) e = ⊥
Leads (bad why) vs e = ⊥
Leads (more f) [] e = ⊥
Leads (more f) (v ∷ vs) e = Leads (f v) vs e

-- the numbers of what is read lead to it
leads_in :
    (form : Form) (s : List ℕ) (last at : ℕ) (e : Event) (end : ℕ) → reading form s last at ≡ Ok (Some (e, end)) → Leads form (numbers_at form s at) e
unfolding reading numbers_at
leads_in (whole e') s last at e end q = (event_same q).0
leads_in (bad why) s last at e end q = absurd (refused_read why last e end q)
leads_in (more f) s last at e end q =
    elim (answer (number_at s at)) [
      | is_read v next p ↦ rw p (leads_in (f v) s at next e end (rw p at q))
      | is_refused why p ↦ absurd (refused_read (Number why) at e end (rw p at q))
    ]

pub read_leads : (s : List ℕ) (at : ℕ) (e : Event) (end : ℕ) → event_at s at ≡ Ok (Some (e, end)) → Leads event (numbers_at event s at) e
read_leads s at e end q = leads_in event s at at e end (of_form s at e end q)

-- so many numbers lead to what they make, and only they
pub several_leads : (n : ℕ) (g : List ℕ → Event) (vs : List ℕ) → length vs ≡ n → Leads (numbers n (λ v. whole (g v))) vs (g vs)
unfolding numbers
several_leads zero g [] h = refl
several_leads zero g (v ∷ vs) h = absurd (omega arith)
several_leads (suc n) g [] h = absurd (omega arith)
several_leads (suc n) g (v ∷ vs) h = several_leads n (λ ws. g (v ∷ ws)) vs (omega arith)

pub leads_several : (n : ℕ) (g : List ℕ → Event) (vs : List ℕ) (e : Event) → Leads (numbers n (λ v. whole (g v))) vs e → (length vs ≡ n) × (g vs ≡ e)
unfolding numbers
leads_several zero g [] e l = (refl, l)
leads_several zero g (v ∷ vs) e l = absurd l
leads_several (suc n) g [] e l = absurd l
leads_several (suc n) g (v ∷ vs) e l = let i = leads_several n (λ ws. g (v ∷ ws)) vs e l in (ap suc i.0, i.1)

-- numbers one after the other, each spelt by its own encoding
unfoldable pub encode_all : List ℕ → List ℕ
encode_all [] = []
encode_all (v ∷ vs) = encode v ++ encode_all vs

-- what was read stood there as the encoding of its numbers, whole
spelt_in :
    (form : Form) (s : List ℕ) (last at : ℕ) (e : Event) (end : ℕ) → Bytes s → reading form s last at ≡ Ok (Some (e, end)) →
    (drop at s ≡ encode_all (numbers_at form s at) ++ drop end s) × (end ≡ at + length (encode_all (numbers_at form s at)))
unfolding reading numbers_at encode_all
spelt_in (whole e') s last at e end b q = let z : at ≡ end = (event_same q).1 in (rw z, omega arith)
spelt_in (bad why) s last at e end b q = absurd (refused_read why last e end q)
spelt_in (more f) s last at e end b q =
    elim (answer (number_at s at)) [
      | is_read v next p ↦
          (let c = canonical s at v next b p in
          let i = spelt_in (f v) s at next e end b (rw p at q) in
          rw p (
            c.0 ∙ ap (λ (l : List ℕ). encode v ++ l) i.0 ∙ sym (append_assoc (encode v) (encode_all (numbers_at (f v) s next)) (drop end s)),
            omega (arith, c.1, i.1, length-append (encode v) (encode_all (numbers_at (f v) s next))),
          ))
      | is_refused why p ↦ absurd (refused_read (Number why) at e end (rw p at q))
    ]

-- an event that is read: the encodings of its numbers are the bytes from its place to its end
pub read_spelt :
    (s : List ℕ) (at : ℕ) (e : Event) (end : ℕ) → Bytes s → event_at s at ≡ Ok (Some (e, end)) →
    (drop at s ≡ encode_all (numbers_at event s at) ++ drop end s) × (end ≡ at + length (encode_all (numbers_at event s at)))
read_spelt s at e end b q = spelt_in event s at at e end b (of_form s at e end q)

-- numbers that 32 bits hold
abbrev pub Fit : List ℕ → Type 0
Fit vs = (i : ℕ) → get_or vs i 0 < 2 ^ 32

back_in :
    (form : Form) (front vs rest : List ℕ) (last : ℕ) (e : Event) → Fit vs → Leads form vs e →
    (reading form (front ++ (encode_all vs ++ rest)) last (length front) ≡ Ok (Some (e, length front + length (encode_all vs)))) ×
    (numbers_at form (front ++ (encode_all vs ++ rest)) (length front) ≡ vs)
unfolding reading numbers_at encode_all
back_in (whole e') front [] rest last e fit l = (ap₂ (λ (e : Event) (p : ℕ). Ok (Some (e, p))) l (omega arith), refl)
back_in (whole e') front (v ∷ vs) rest last e fit l = absurd l
back_in (bad why) front vs rest last e fit l = absurd l
back_in (more f) front [] rest last e fit l = absurd l
back_in (more f) front (v ∷ vs) rest last e fit l =
    let tape : front ++ (encode v ++ encode_all vs ++ rest) ≡ front ++ encode v ++ (encode_all vs ++ rest)
    = ap (λ (r : List ℕ). front ++ r) (append_assoc (encode v) (encode_all vs) rest) ∙ sym (append_assoc front (encode v) (encode_all vs ++ rest)) in
    let one = read_placed front v (encode_all vs ++ rest) (fit 0) in
    let long = length-append front (encode v) in
    let i = back_in (f v) (front ++ encode v) vs rest (length front) e (λ n. fit (suc n)) l in
    rw (tape, one, ← long) (
      i.0 ∙ ap (λ (p : ℕ). Ok (Some (e, p))) (omega (arith, long, length-append (encode v) (encode_all vs))),
      ap (λ (ws : List ℕ). v ∷ ws) i.1,
    )

-- numbers that lead to an event, encoded, are read as that event, wherever they stand and whatever stands behind
pub leads_read :
    (front vs rest : List ℕ) (e : Event) → Fit vs → Leads event vs e →
    (event_at (front ++ (encode_all vs ++ rest)) (length front) ≡ Ok (Some (e, length front + length (encode_all vs)))) ×
    (entries_at (front ++ (encode_all vs ++ rest)) (length front) ≡ entries_of vs)
leads_read front vs rest e fit l =
    let i = back_in event front vs rest (length front) e fit l in
    (event_of_form (front ++ (encode_all vs ++ rest)) (length front) e _ i.0, ap entries_of i.1)

-- and numbers whose encoding is read whole, to its end, lead to what is read
whole_in :
    (form : Form) (front vs : List ℕ) (last : ℕ) (e : Event) (end : ℕ) → Fit vs → end ≡ length front + length (encode_all vs) →
    reading form (front ++ encode_all vs) last (length front) ≡ Ok (Some (e, end)) → Leads form vs e
unfolding reading encode_all
whole_in (whole e') front [] last e end fit h q = (event_same q).0
whole_in (whole e') front (v ∷ vs) last e end fit h q =
    let here : length front ≡ end = (event_same q).1 in
    absurd (omega (arith, length-append (encode v) (encode_all vs), bytes_some 4 v))
whole_in (bad why) front vs last e end fit h q = absurd (refused_read why last e end q)
whole_in (more f) front [] last e end fit h q =
    absurd (refused_read (Number CutShort) (length front) e end (rw (missing (front ++ []) (length front) (omega (arith, length-append front []))) at q))
whole_in (more f) front (v ∷ vs) last e end fit h q =
    let tape : front ++ (encode v ++ encode_all vs) ≡ front ++ encode v ++ encode_all vs = sym (append_assoc front (encode v) (encode_all vs)) in
    let one = read_placed front v (encode_all vs) (fit 0) in
    let long = length-append front (encode v) in
    whole_in (f v) (front ++ encode v) vs (length front) e end (λ n. fit (suc n)) (omega (arith, long, length-append (encode v) (encode_all vs))) (rw (tape, one, ← long) at q)

pub read_whole : (vs : List ℕ) (e : Event) → Fit vs → event_at (encode_all vs) 0 ≡ Ok (Some (e, length (encode_all vs))) → Leads event vs e
read_whole vs e fit q = whole_in event [] vs 0 e (length (encode_all vs)) fit (omega arith) (of_form (encode_all vs) 0 e _ q)

-- what is read off a tape fits
fit_more : (v : ℕ) (vs : List ℕ) → v < 2 ^ 32 → Fit vs → Fit (v ∷ vs)
fit_more v vs h fit zero = h
fit_more v vs h fit (suc i) = fit i

fit_in : (form : Form) (s : List ℕ) (at : ℕ) → Fit (numbers_at form s at)
unfolding numbers_at
fit_in (whole e) s at i = omega arith
fit_in (bad why) s at i = omega arith
fit_in (more f) s at i =
    elim (answer (number_at s at)) [
      | is_read v next p ↦ rw p (fit_more v (numbers_at (f v) s next) (read_fits s at v next p) (fit_in (f v) s next) i)
      | is_refused why p ↦ rw p (omega arith)
    ]

pub read_fit : (s : List ℕ) (at : ℕ) → Fit (numbers_at event s at)
read_fit s at = fit_in event s at
