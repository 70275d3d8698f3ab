-- Where an event ends, and what of a tape it depends on: the bytes of the longest event from its place on are enough,
-- and bytes before it move its place alone. So a program may read a tape of any length through a buffer.
use Rattle.std.specs.Prelude.{◌≡◌, refl, ◌⊎◌, List, [], ◌∷◌, ◌++◌, ℕ, zero, suc, ◌+◌, ◌*◌, ◌≤◌, ◌<◌, length, Some, None, Ok, Err}
use Rattle.std.proofs.Common.{sym, ap, ◌∙◌, inl, inr, ⊎_elim, append-nil, arith, lt-ltb, le-ltb, length-append}
use Rattle.numeral.specs.declared.Refusal as number
use Rattle.numeral.specs.declared.Refusal.TheVariants.{CutShort}
use Rattle.numeral.specs.Number.{Number as Numeral, groups, number_at}
use Rattle.numeral.specs.Cases.{below}
use Rattle.numeral.specs.Cases as number_cases
use Rattle.numeral.specs.Laws as number_laws
use Rattle.numeral.specs.Window as number_window
use Rattle.numeral.specs.Window.{answer, is_read, is_refused, longest}
use Rattle.tape.specs.declared.Event.{Event}
use Rattle.tape.specs.declared.Refusal.{Refusal}
use Rattle.tape.specs.declared.Refused.{Refused}
use Rattle.tape.specs.declared.Refusal.TheVariants.{Number}
use Rattle.tape.specs.Tape.{Reading, refusal_at, Form, whole, bad, more, form_of, event, reading, numbers_at, event_at, entries_of, stored, entries_after}
use Rattle.tape.specs.Depth.{Within, more_within, most_behind, most_numbers, most_bytes, form_within, event_within}

-- no answer is of two kinds
pub refused_read : (why : Refusal) (place : ℕ) (e : Event) (end : ℕ) → ◌≡◌ {A = Reading} (Err (refusal_at why place)) (Ok (Some (e, end))) → ⊥
refused_read why place e end q = cc

pub end_read : (e : Event) (end : ℕ) → ◌≡◌ {A = Reading} (Ok None) (Ok (Some (e, end))) → ⊥
end_read e end q = cc

pub end_refused : (why : Refusal) (place : ℕ) → ◌≡◌ {A = Reading} (Ok None) (Err (refusal_at why place)) → ⊥
end_refused why place q = cc

-- and two of one kind are the same if their parts are
pub event_same : {e f : Event} {end last : ℕ} → ◌≡◌ {A = Reading} (Ok (Some (e, end))) (Ok (Some (f, last))) → (e ≡ f) × (end ≡ last)
event_same {e} {f} {end} {last} q =
    let p : ◌≡◌ {A = Event × ℕ} (e, end) (f, last) = cc in
    (ap (λ (x : Event × ℕ). x.0) p, ap (λ (x : Event × ℕ). x.1) p)

pub refusal_same : {why other : Refusal} {place p : ℕ} → ◌≡◌ {A = Reading} (Err (refusal_at why place)) (Err (refusal_at other p)) → (why ≡ other) × (place ≡ p)
refusal_same {why} {other} {place} {p} q =
    let r : refusal_at why place ≡ refusal_at other p = cc in
    (ap (λ (x : Refused). x.why) r, ap (λ (x : Refused). x.place) r)

pub on_tape : (s : List ℕ) (at : ℕ) → at < length s → event_at s at ≡ reading event s at at
unfolding event_at
on_tape s at h = rw (lt-ltb at (length s) h)

pub past_tape : (s : List ℕ) (at : ℕ) → length s ≤ at → event_at s at ≡ Ok None
unfolding event_at
past_tape s at h = rw (le-ltb at (length s) h)

-- and nowhere else is it at its end
never_end : (form : Form) (s : List ℕ) (last at : ℕ) → reading form s last at ≡ Ok None → ⊥
unfolding reading
never_end (whole e) s last at q = end_read e at (sym q)
never_end (bad why) s last at q = end_refused why last (sym q)
never_end (more f) s last at q =
    elim (answer (number_at s at)) [
      | is_read v next p ↦ never_end (f v) s at next (rw p at q)
      | is_refused why p ↦ end_refused (Number why) at (sym (rw p at q))
    ]

pub tape_ends : (s : List ℕ) (at : ℕ) → event_at s at ≡ Ok None → length s ≤ at
tape_ends s at q = ⊎_elim (λ h. absurd (never_end event s at at (sym (on_tape s at h) ∙ q))) (λ h. h) (below at (length s))

-- an event is read of the form, on the tape
pub of_form : (s : List ℕ) (at : ℕ) (e : Event) (end : ℕ) → event_at s at ≡ Ok (Some (e, end)) → reading event s at at ≡ Ok (Some (e, end))
of_form s at e end q =
    ⊎_elim
    (λ h. sym (on_tape s at h) ∙ q)
    (λ h. absurd (end_read e end (sym (past_tape s at h) ∙ q)))
    (below at (length s))

pub event_of_form : (s : List ℕ) (at : ℕ) (e : Event) (end : ℕ) → reading event s at at ≡ Ok (Some (e, end)) → event_at s at ≡ Ok (Some (e, end))
unfolding reading event
event_of_form s at e end q =
    ⊎_elim
    (λ h. on_tape s at h ∙ q)
    (λ h. absurd (refused_read (Number CutShort) at e end (rw (number_window.missing s at h) at q)))
    (below at (length s))

place_in :
    (n : ℕ) (form : Form) (s : List ℕ) (last at : ℕ) (e : Event) (end : ℕ) → Within n form → reading form s last at ≡ Ok (Some (e, end)) →
    (at ≤ end) × (end ≤ at + groups * n) × (at ≤ length s → end ≤ length s)
unfolding reading
place_in n (whole _) s last at e end w q = let p : at ≡ end = (event_same q).1 in (omega arith, omega arith, λ h. omega arith)
place_in n (bad why) s last at e end w q = absurd (refused_read why last e end q)
place_in zero (more f) s last at e end w q = elim w [ ]
place_in (suc n) (more f) s last at e end (more_within w) q =
    elim (answer (number_at s at)) [
      | is_read v next p ↦
          (let i = place_in n (f v) s at next e end (w v) (rw p at q) in
          let l = longest s at v next p in
          let m = number_laws.place s at v next p in
          (omega (arith, i.0, m.0), omega (arith, i.1), λ h. i.2 m.1))
      | is_refused why p ↦ absurd (refused_read (Number why) at e end (rw p at q))
    ]

-- an event ends past its start and on the tape, and not past the bytes of the longest event
pub place : (s : List ℕ) (at : ℕ) (e : Event) (end : ℕ) → event_at s at ≡ Ok (Some (e, end)) → (at < end) × (end ≤ length s) × (end ≤ at + most_bytes)
unfolding reading event
place s at e end q =
    let f = of_form s at e end q in
    elim (answer (number_at s at)) [
      | is_read v next p ↦
          (let i = place_in most_behind (form_of v) s at next e end (form_within v) (rw p at f) in
          let m = number_laws.place s at v next p in
          (omega (arith, i.0, m.0), i.2 m.1, omega (arith, i.1, longest s at v next p)))
      | is_refused why p ↦ absurd (refused_read (Number why) at e end (rw p at f))
    ]

-- bytes behind an event change nothing, unless it was cut short
on_in :
    (form : Form) (s rest : List ℕ) (last at : ℕ) → ((p : ℕ) → reading form s last at ≡ Err (refusal_at (Number CutShort) p) → ⊥) →
    (reading form (s ++ rest) last at ≡ reading form s last at) × (numbers_at form (s ++ rest) at ≡ numbers_at form s at)
unfolding reading numbers_at
on_in (whole e) s rest last at n = (refl, refl)
on_in (bad why) s rest last at n = (refl, refl)
on_in (more f) s rest last at n =
    elim (answer (number_at s at)) [
      | is_read v next p ↦
          (let same = number_window.goes_on s rest at (λ q. read_not_refused (sym p ∙ q)) ∙ p in
          let i = on_in (f v) s rest at next (λ b q. n b (rw p q)) in
          (rw (same, p) i.0, rw (same, p) (ap (λ (vs : List ℕ). v ∷ vs) i.1)))
      | is_refused why p ↦
          (let same = number_window.goes_on s rest at (λ q. n at (rw q)) ∙ p in
          (rw (same, p), rw (same, p)))
    ]
  where
    read_not_refused : {v next : ℕ} {why : number.Refusal} → ◌≡◌ {A = Numeral} (Ok (v, next)) (Err why) → ⊥
    read_not_refused {v} {next} {why} q = number_cases.refused_read why v next (sym q)

-- and neither do they where as many stand from its place on as its form may take
window_in :
    (n : ℕ) (form : Form) (s rest : List ℕ) (last at : ℕ) → Within n form → at + groups * n ≤ length s →
    (reading form (s ++ rest) last at ≡ reading form s last at) × (numbers_at form (s ++ rest) at ≡ numbers_at form s at)
unfolding reading numbers_at
window_in n (whole e) s rest last at w h = (refl, refl)
window_in n (bad why) s rest last at w h = (refl, refl)
window_in zero (more f) s rest last at w h = elim w [ ]
window_in (suc n) (more f) s rest last at (more_within w) h =
    let same = number_window.goes_on s rest at (number_window.long_enough s at (omega arith)) in
    elim (answer (number_at s at)) [
      | is_read v next p ↦
          (let i = window_in n (f v) s rest at next (w v) (omega (arith, longest s at v next p)) in
          (rw (same, p) i.0, rw (same, p) (ap (λ (vs : List ℕ). v ∷ vs) i.1)))
      | is_refused why p ↦ (rw (same, p), rw (same, p))
    ]

-- the same event at the same place, with the same numbers of its entries
abbrev pub SameAt : List ℕ → List ℕ → ℕ → Type 0
SameAt s t at = (event_at t at ≡ event_at s at) × ((out : List ℕ) → entries_after t at out ≡ entries_after s at out)

same_at :
    (s rest : List ℕ) (at : ℕ) → at < length s →
    (reading event (s ++ rest) at at ≡ reading event s at at) × (numbers_at event (s ++ rest) at ≡ numbers_at event s at) → SameAt s (s ++ rest) at
unfolding event_at entries_after
same_at s rest at h e = (
  rw (lt-ltb at (length s) h, lt-ltb at (length (s ++ rest)) (omega (arith, length-append s rest))) e.0,
  λ out. ap (λ (vs : List ℕ). stored (entries_of vs) out) e.1,
)

-- more bytes behind change nothing, where the tape neither ended nor was cut short
pub goes_on :
    (s rest : List ℕ) (at : ℕ) → (event_at s at ≡ Ok None → ⊥) → ((p : ℕ) → event_at s at ≡ Err (refusal_at (Number CutShort) p) → ⊥) → SameAt s (s ++ rest) at
goes_on s rest at n m =
    ⊎_elim
    (λ h. same_at s rest at h (on_in event s rest at at (λ p q. m p (on_tape s at h ∙ q))))
    (λ h. absurd (n (past_tape s at h)))
    (below at (length s))

-- the bytes of the longest event from the place on are enough
pub window : (s rest : List ℕ) (at : ℕ) → at + most_bytes ≤ length s → SameAt s (s ++ rest) at
window s rest at h = same_at s rest at (omega arith) (window_in most_numbers event s rest at at event_within h)

-- what is read behind other bytes
abbrev pub moved : ℕ → Reading → Reading
moved by (Ok (Some (e, end))) = Ok (Some (e, by + end))
moved by (Err r) = Err (refusal_at r.why (by + r.place))
moved by (Ok None) = Ok None

moved_in :
    (form : Form) (front s : List ℕ) (last at : ℕ) →
    (reading form (front ++ s) (length front + last) (length front + at) ≡ moved (length front) (reading form s last at)) ×
    (numbers_at form (front ++ s) (length front + at) ≡ numbers_at form s at)
unfolding reading numbers_at
moved_in (whole e) front s last at = (refl, refl)
moved_in (bad why) front s last at = (refl, refl)
moved_in (more f) front s last at =
    elim (answer (number_at s at)) [
      | is_read v next p ↦
          (let q = number_window.number_moved front s at ∙ ap (number_window.moved (length front)) p in
          let i = moved_in (f v) front s at next in
          (rw (q, p) i.0, rw (q, p) (ap (λ (vs : List ℕ). v ∷ vs) i.1)))
      | is_refused why p ↦
          (let q = number_window.number_moved front s at ∙ ap (number_window.moved (length front)) p in
          (rw (q, p), rw (q, p)))
    ]

-- bytes before an event move its places and nothing else
pub event_moved :
    (front s : List ℕ) (at : ℕ) →
    (event_at (front ++ s) (length front + at) ≡ moved (length front) (event_at s at)) ×
    ((out : List ℕ) → entries_after (front ++ s) (length front + at) out ≡ entries_after s at out)
unfolding entries_after
event_moved front s at =
    let i = moved_in event front s at at in
    let l = length-append front s in (
      ⊎_elim
          (λ h. on_tape (front ++ s) (length front + at) (omega arith) ∙ i.0 ∙ ap (moved (length front)) (sym (on_tape s at h)))
          (λ h. past_tape (front ++ s) (length front + at) (omega arith) ∙ ap (moved (length front)) (sym (past_tape s at h)))
          (below at (length s)),
      λ out. ap (λ (vs : List ℕ). stored (entries_of vs) out) i.1,
    )

-- so a tape may be read through a buffer that holds a part of it: with the bytes of the longest event left in the
-- buffer, or all that the tape has, the event in the buffer is the tape's
pub buffered :
    (front buffer rest : List ℕ) (at : ℕ) → (at + most_bytes ≤ length buffer) ⊎ (rest ≡ []) →
    (event_at (front ++ (buffer ++ rest)) (length front + at) ≡ moved (length front) (event_at buffer at)) ×
    ((out : List ℕ) → entries_after (front ++ (buffer ++ rest)) (length front + at) out ≡ entries_after buffer at out)
buffered front buffer rest at enough =
    let m = event_moved front (buffer ++ rest) at in
    let w : SameAt buffer (buffer ++ rest) at
    = ⊎_elim (window buffer rest at) (λ e. let all : buffer ++ rest ≡ buffer = ap (λ (r : List ℕ). buffer ++ r) e ∙ append-nil buffer in rw all (refl, λ out. refl)) enough in
    (m.0 ∙ ap (moved (length front)) w.0, λ out. m.1 out ∙ w.1 out)

-- the place of a refusal is that of a number of the event, or the tape's length where the number is missing altogether,
-- by 30
refused_in :
    (form : Form) (s : List ℕ) (last at : ℕ) (why : Refusal) (p : ℕ) → last < at → at ≤ length s → reading form s last at ≡ Err (refusal_at why p) →
    (last ≤ p) × (p ≤ length s) × (p ≡ length s → why ≡ Number CutShort)
unfolding reading
refused_in (whole e) s last at why p l h q = absurd (refused_read why p e at (sym q))
refused_in (bad k) s last at why p l h q = let z = (refusal_same q).1 in (omega (arith, z), omega (arith, z), λ m. absurd (omega (arith, z)))
refused_in (more f) s last at why p l h q =
    elim (answer (number_at s at)) [
      | is_read v next r ↦
          (let m = number_laws.place s at v next r in
          let i = refused_in (f v) s at next why p m.0 m.1 (rw r at q) in
          (omega (arith, i.0), i.1, i.2))
      | is_refused k r ↦
          (let same = refusal_same (rw r at q) in
          (omega (arith, same.1), omega (arith, same.1), λ m. sym same.0 ∙ ap Number (short k (sym r ∙ number_window.missing s at (omega (arith, same.1))))))
    ]
  where
    short : (k : number.Refusal) → ◌≡◌ {A = Numeral} (Err k) (Err CutShort) → k ≡ CutShort
    short k e = cc

pub refused_place :
    (s : List ℕ) (at : ℕ) (why : Refusal) (p : ℕ) → event_at s at ≡ Err (refusal_at why p) →
    (at ≤ p) × ((p < length s) ⊎ ((p ≡ length s) × (why ≡ Number CutShort)))
unfolding reading event
refused_place s at why p q =
    ⊎_elim
    (λ h.
    let f = sym (on_tape s at h) ∙ q in
    elim (answer (number_at s at)) [
      | is_read v next r ↦
          (let m = number_laws.place s at v next r in
          let i = refused_in (form_of v) s at next why p m.0 m.1 (rw r at f) in
          (i.0, by_place i.1 i.2))
      | is_refused k r ↦ (let same = refusal_same (rw r at f) in (omega (arith, same.1), inl (omega (arith, same.1))))
    ])
    (λ h. absurd (end_refused why p (sym (past_tape s at h) ∙ q)))
    (below at (length s))
  where
    by_place : p ≤ length s → (p ≡ length s → why ≡ Number CutShort) → (p < length s) ⊎ ((p ≡ length s) × (why ≡ Number CutShort))
    by_place h f = ⊎_elim inl (λ l. let e : p ≡ length s = omega arith in inr (e, f e)) (below p (length s))
