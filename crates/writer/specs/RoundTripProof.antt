-- The proofs of RoundTrip.
use Rattle.std.specs.Prelude.{◌≡◌, refl, Bool, true, false, ◌↔◌, take, drop, Some, None, Ok, Err}
use Rattle.std.proofs.Math.Path.{sym}
use Rattle.std.proofs.Common.{ap, ap₂, ◌∙◌, subst, ⊎_elim, zero-add, arith, length-append, length-drop, take-add, take_all, length-take-le, lt-ltb, le-ltb}
use mathlib.Core.List.{List, [], ◌∷◌, ◌++◌, append_assoc, append-nil}
use Prim.Native.Nat.{ℕ, zero, suc, ◌+◌, ◌-◌, ◌≤◌, ◌<◌}
use Rattle.std.proofs.Math.ListN.{length}
use Rattle.units.specs.Tests.{is_not, pick, pick_yes, pick_no, holds_not_fails}
use Rattle.numeral.specs.Cases.{below}
use Rattle.numeral.specs.Laws.{Bytes}
use Rattle.tape.specs.declared.Event.{Event}
use Rattle.tape.specs.declared.Refused.{Refused}
use Rattle.tape.specs.Refusal.{refusal_number as number_of}
use Rattle.tape.specs.Tape.{Reading, event, event_at, numbers_at, entries_at, entries_of}
use Rattle.tape.specs.TapeLaws.{past_tape, tape_ends, place}
use Rattle.tape.specs.Several.{stored_front}
use Rattle.tape.specs.Depth.{most_bytes}
use Rattle.tape.specs.Leads.{encode_all, Fit, read_whole, read_fit}
use Rattle.tape.specs.Spelling.{numbers_of, leads_spells, one_spelling, spelt, consumed, read_back}
use Rattle.tape.specs.One.{one_event}
use Rattle.tape.specs.Whole.{Whole, Ending, ended, refused, ◌before◌, read_by, read_from, read_all, nothing_but}
use Rattle.tape.specs.WholeLaws.{read_next}
use Rattle.writer.specs.Write.{write_refusal, buffer_after}
use Rattle.writer.specs.WriteLaws.{event_says, never_short}
use Rattle.writer.specs.Tapes.{IsEvent, Events, tape_of, events_of}
use Rattle.writer.specs.Rewriting.{rewritten_after}
use Rattle.writer.specs.RoundTrip.{Taken, RefusedBy, RoundTrip}

-- numbers that are no event, an event too long for the room, and one that has room
data Outcome (vs : List ℕ) (room : ℕ) : Type 0 where
  no_event : (IsEvent vs → ⊥) → write_refusal vs room ≡ 41 → Outcome vs room
  too_long : IsEvent vs → room < length (encode_all vs) → write_refusal vs room ≡ 40 → Outcome vs room
  has_room : IsEvent vs → length (encode_all vs) ≤ room → write_refusal vs room ≡ 0 → Outcome vs room

outcome : (vs : List ℕ) (room : ℕ) → Outcome vs room
unfolding write_refusal is_not pick
outcome vs room = go (one_event event vs) refl
  where
    go : (t : Bool) → one_event event vs ≡ t → Outcome vs room
    go false h = no_event (λ is. holds_not_fails ((event_says vs).1 is) h) (rw h)
    go true h =
        let is = (event_says vs).0 h in
        ⊎_elim
        (λ long. too_long is long (rw (h, lt-ltb room (length (encode_all vs)) long)))
        (λ fits. has_room is fits (rw (h, le-ltb room (length (encode_all vs)) fits)))
        (below room (length (encode_all vs)))

module _ (vs : List ℕ) (room : ℕ) where
  gives_41 : (write_refusal vs room ≡ 41) ↔ (IsEvent vs → ⊥)
  gives_41 = (
    λ e is. elim (outcome vs room) [ no_event n q ↦ n is | too_long i l q ↦ omega arith | has_room i l q ↦ omega arith ],
    λ n. elim (outcome vs room) [ no_event m q ↦ q | too_long i l q ↦ absurd (n i) | has_room i l q ↦ absurd (n i) ],
  )

  gives_40 : (write_refusal vs room ≡ 40) ↔ (IsEvent vs × (room < length (encode_all vs)))
  gives_40 = (
    λ e. elim (outcome vs room) [ no_event n q ↦ absurd (omega arith) | too_long i l q ↦ (i, l) | has_room i l q ↦ absurd (omega arith) ],
    λ (is, long). elim (outcome vs room) [ no_event n q ↦ absurd (n is) | too_long i l q ↦ q | has_room i l q ↦ absurd (omega arith) ],
  )

  gives_0 : (write_refusal vs room ≡ 0) ↔ (IsEvent vs × (length (encode_all vs) ≤ room))
  gives_0 = (
    λ e. elim (outcome vs room) [ no_event n q ↦ absurd (omega arith) | too_long i l q ↦ absurd (omega arith) | has_room i l q ↦ (i, l) ],
    λ (is, fits). elim (outcome vs room) [ no_event n q ↦ absurd (n is) | too_long i l q ↦ absurd (omega arith) | has_room i l q ↦ q ],
  )

-- numbers are one event exactly where the reader takes their bytes whole
taken_whole : (vs : List ℕ) → Fit vs → IsEvent vs ↔ Taken vs
taken_whole vs fit = (
  λ (e, is). (e, rw (append-nil (encode_all vs), zero-add (length (encode_all vs))) at (read_back [] vs [] e fit is).0),
  λ (e, q). (e, leads_spells vs e (read_whole vs e fit q)),
)

-- events written behind other bytes are read from there on
reads_from :
    (front : List ℕ) (all : List (List ℕ)) → Events all →
    (events_of (read_from (front ++ tape_of all) (length front)) ≡ all) × ((read_from (front ++ tape_of all) (length front)).ending ≡ ended)
unfolding tape_of
reads_from front [] every =
    let none = past_tape (front ++ []) (length front) (omega (arith, length-append front [])) in
    let e : read_from (front ++ []) (length front) ≡ nothing_but ended =
    read_next (front ++ []) (length front) ∙ ap (read_by (entries_at (front ++ []) (length front)) (read_from (front ++ []))) none in
    (ap events_of e, ap (λ (w : Whole). w.ending) e)
reads_from front (vs ∷ all) ((fit, (e, is)), every) =
    let s : List ℕ = front ++ (encode_all vs ++ tape_of all) in
    let behind : List ℕ = front ++ encode_all vs in
    let back = read_back front vs (tape_of all) e fit is in
    let rest : read_from s (length front + length (encode_all vs)) ≡ read_from (behind ++ tape_of all) (length behind)
    = ap₂ read_from (sym (append_assoc front (encode_all vs) (tape_of all))) (sym (length-append front (encode_all vs))) in
    let first : read_from s (length front) ≡ record { event = e; numbers = entries_of vs } before read_from (behind ++ tape_of all) (length behind)
    = read_next s (length front)
    ∙ (ap₂ (λ (ns : List ℕ) (r : Reading). read_by ns (read_from s) r) back.1 back.0
    ∙ ap (λ (w : Whole). record { event = e; numbers = entries_of vs } before w) rest) in
    let i = reads_from behind all every in
    (ap events_of first ∙ ap₂ (λ (ws : List ℕ) (l : List (List ℕ)). ws ∷ l) (sym (one_spelling vs e is)) i.0, ap (λ (w : Whole). w.ending) first ∙ i.1)

-- where a tape stops: at its end, or before the event that is refused
data StopsAt (s : List ℕ) (q : ℕ) : Ending → Type 0 where
  at_end : q ≡ length s → StopsAt s q ended
  at_refusal : {r : Refused} → event_at s q ≡ Err r → StopsAt s q (refused (number_of r.why) r.place)

-- the events of a tape from a place on, written, are its bytes from there to where it stops
record WritesFrom (s : List ℕ) (at : ℕ) (w : Whole) : Type 0 where
  q : ℕ
  stops : StopsAt s q w.ending
  bytes : take at s ++ tape_of (events_of w) ≡ take q s

-- and each of them is one event
module _ (s : List ℕ) (b : Bytes s) where
  abbrev Holds : ℕ → Whole → Type 0
  Holds at w = WritesFrom s at w × Events (events_of w)

  -- one event, by its numbers as they were read
  spelt_by : (at : ℕ) (e : Event) (end : ℕ) → event_at s at ≡ Ok (Some (e, end)) → Fit (numbers_of e (entries_at s at)) × IsEvent (numbers_of e (entries_at s at))
  spelt_by at e end p =
      let is = (spelt s at e end b p).0 in
      rw (← one_spelling (numbers_at event s at) e is) (read_fit s at, (e, is))

  -- the bytes up to its end are those up to its place, and its own
  up_to : (at : ℕ) (e : Event) (end : ℕ) → event_at s at ≡ Ok (Some (e, end)) → take at s ++ encode_all (numbers_of e (entries_at s at)) ≡ take end s
  up_to at e end p =
      let on = place s at e end p in
      let n : at + (end - at) ≡ end = omega (arith, on.0) in
      ap (λ (l : List ℕ). take at s ++ l) (sym (consumed s at e end b p)) ∙ (sym (take-add at (end - at) s) ∙ ap (λ (k : ℕ). take k s) n)

  -- it stands before what holds from its end on; a tape that ends, or is refused, holds nothing more
  at_place :
      (at : ℕ) → at ≤ length s → ((e : Event) (end : ℕ) → event_at s at ≡ Ok (Some (e, end)) → Holds end (read_from s end)) →
      (r : Reading) → event_at s at ≡ r → Holds at (read_by (entries_at s at) (read_from s) r)
  unfolding tape_of
  at_place at on from (Ok (Some (e, end))) p =
      let (w, every) = from e end p in
      let own : List ℕ = encode_all (numbers_of e (entries_at s at)) in
      let rest : List ℕ = tape_of (events_of (read_from s end)) in
      (record { q = w.q; stops = w.stops; bytes = sym (append_assoc (take at s) own rest) ∙ (ap (λ (l : List ℕ). l ++ rest) (up_to at e end p) ∙ w.bytes) }, (spelt_by at e end p, every))
  at_place at on from (Err r) p = (record { q = at; stops = at_refusal p; bytes = append-nil (take at s) }, tt)
  at_place at on from (Ok None) p =
      let whole : at ≡ length s = omega (arith, tape_ends s at p) in
      (record { q = at; stops = at_end whole; bytes = append-nil (take at s) }, tt)

  writes_from : (n at : ℕ) → at ≤ length s → length s - at ≤ n → Holds at (read_from s at)
  writes_from zero at on h =
      subst (Holds at) (sym (read_next s at)) (at_place at on (λ e end p. absurd (omega (arith, place s at e end p))) (event_at s at) refl)
  writes_from (suc n) at on h =
      subst (Holds at) (sym (read_next s at))
      (at_place at on (λ e end p. let k = place s at e end p in writes_from n end k.1 (omega (arith, k.0))) (event_at s at) refl)

  all_of : Holds 0 (read_all s)
  all_of = writes_from (length s) 0 (omega arith) (omega arith)

-- what is written, where it is not refused
writes : (vs was : List ℕ) → write_refusal vs (length was) ≡ 0 → buffer_after vs was ≡ encode_all vs ++ drop (length (encode_all vs)) was
unfolding buffer_after
writes vs was e = pick_no _ _ (rw e (le-ltb 0 0 (omega arith))) ∙ stored_front (encode_all vs) was ((gives_0 vs (length was)).0 e).1

rewrites_same :
    (s : List ℕ) (at : ℕ) (e : Event) (end : ℕ) (out : List ℕ) → Bytes s → event_at s at ≡ Ok (Some (e, end)) → most_bytes ≤ length out →
    rewritten_after s at out ≡ take (end - at) (drop at s) ++ drop (end - at) out
unfolding rewritten_after
rewrites_same s at e end out b q room =
    let vs : List ℕ = numbers_of e (entries_at s at) in
    let same : encode_all vs ≡ take (end - at) (drop at s) = sym (consumed s at e end b q) in
    let on = place s at e end q in
    let long : length (take (end - at) (drop at s)) ≡ end - at = length-take-le (end - at) (drop at s) (rw length-drop (omega (arith, on.1))) in
    rw (q) (writes vs out (never_short vs (length out) room ((event_says vs).1 (spelt_by s b at e end q).1)) ∙ rw (same, long))

-- where a tape stops, by its ending
stops_by : {s : List ℕ} {q : ℕ} {ending : Ending} → StopsAt s q ending → ending ≡ ended → q ≡ length s
stops_by (at_end e) h = e
stops_by (at_refusal e) h = let z : ◌≡◌ {A = ℕ} 0 1 = cc in absurd (omega arith)

refused_by : {s : List ℕ} {q : ℕ} {ending : Ending} (code p : ℕ) → StopsAt s q ending → ending ≡ refused code p → RefusedBy s q code p
refused_by code p (at_end e) h = let z : ◌≡◌ {A = ℕ} 0 1 = cc in absurd (omega arith)
refused_by code p (at_refusal {r = r} e) h = (r, e, cc, cc)

pub round_trip : RoundTrip
unfolding buffer_after
round_trip = record {
  not_one = gives_41;
  no_room = gives_40;
  accepted = gives_0;
  taken = taken_whole;
  never_short = λ vs room h e. omega (arith, never_short vs room h ((event_says vs).1 ((gives_40 vs room).0 e).0));
  left = λ vs was h. pick_yes _ _ (lt-ltb 0 _ h);
  written = writes;
  reads_back = read_back;
  tape_reads_back = λ all every. reads_from [] all every;
  writes_back = λ s at e end b p. sym (consumed s at e end b p);
  rewrites = rewrites_same;
  tape_writes_back = λ s b e. let w = (all_of s b).0 in w.bytes ∙ (rw (stops_by w.stops e) (take_all (length s) s (omega arith)));
  front_writes_back = λ s code p b e. let w = (all_of s b).0 in (w.q, refused_by code p w.stops e, w.bytes);
  events_are = λ s b. (all_of s b).1;
}
