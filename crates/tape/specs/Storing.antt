-- Numbers stored from a place on, as far as the memory reaches, and those of an event.
use Rattle.std.specs.Prelude.{◌≡◌, refl, ◌⊎◌, List, [], ◌∷◌, ℕ, ◌+◌, ◌≤◌, ◌<◌, length, get_or, take, drop, set, Some, Ok}
use Rattle.std.proofs.Common.{sym, ap, ◌∙◌, ⊎_elim, add-one, arith, length-set, take-append-drop, length-take-le, take-suc, take_all}
use Rattle.std.proofs.lemmas.List.Edits.{sets}
use Rattle.units.specs.Places.{sets_append}
use Rattle.numeral.specs.Writing.{sets_past}
use Rattle.entry.specs.Numbers.{bulk_numbers}
use Rattle.tape.specs.declared.Event.{Event}
use Rattle.tape.specs.declared.Event.TheVariants.{Settings, Away, Submit, Turn, Open}
use Rattle.tape.specs.Tape.{event_at, entries_at, entries_after, stored}
use Rattle.tape.specs.Several.{stored_sets}
use Rattle.tape.specs.Spelling.{numbers_of, entries_in, submitted}

module _ (vs was : List ℕ) (at : ℕ) where
  -- a loop that stores them: the first i are stored
  pub record Storing (i to : ℕ) (out : List ℕ) : Type 0 where
    pub within : i ≤ length vs
    pub next : to ≡ at + i
    pub stored : out ≡ sets was at (take i vs)
    -- follows, and each store asks for it
    pub long : length out ≡ length was

  pub storing_starts : Storing 0 at was
  storing_starts = record { within = omega arith; next = omega arith; stored = refl; long = refl }

  module _ {i to : ℕ} {out : List ℕ} (s : Storing i to out) where
    -- those that are stored, and then the others
    both : sets was at vs ≡ sets out to (drop i vs)
    both =
        let parts = sets_append (take i vs) (drop i vs) was at in
        let place : at + length (take i vs) ≡ to = omega (arith, s.next, length-take-le i vs s.within) in
        ap (sets was at) (sym (take-append-drop i vs)) ∙ (parts ∙ rw (← s.stored, place))

    pub storing_goes_on : i < length vs → Storing (i + 1) (to + 1) (set out to (get_or vs i 0))
    storing_goes_on h = record {
      within = omega arith;
      next = omega (arith, s.next);
      stored =
          (let place : at + length (take i vs) ≡ to = omega (arith, s.next, length-take-le i vs s.within) in
          rw (add-one, take-suc vs i 0 h) (rw (← s.stored, place) at (sym (sets_append (take i vs) (get_or vs i 0 ∷ []) was at))));
      long = length-set out to (get_or vs i 0) ∙ s.long;
    }

    -- all are stored, or the memory ends
    pub storing_ends : (length vs ≤ i) ⊎ (length out ≤ to) → out ≡ sets was at vs
    storing_ends over = ⊎_elim
        (λ all. s.stored ∙ ap (sets was at) (take_all i vs all))
        (λ end. sym (both ∙ sets_past (drop i vs) out to end))
        over

-- numbers stored from the front are those of the event that they make
pub event_stored :
    {e : Event} (k : Event) (v out : List ℕ) {last : List ℕ} {n : ℕ} → e ≡ k → last ≡ sets out 0 (numbers_of k v) → n ≡ length (numbers_of k v) →
    (last ≡ stored (numbers_of e v) out) × (n ≡ length (numbers_of e v))
event_stored k v out is laid long = rw is (laid ∙ stored_sets (numbers_of k v) out, long)

-- of the numbers that were stored the first are those of the event's entries
pub entries_back :
    (s : List ℕ) (at end : ℕ) (lent : List ℕ) → bulk_numbers ≤ length lent → (e : Event) → event_at s at ≡ Ok (Some (e, end)) →
    (entries_in e ≤ bulk_numbers) × (numbers_of e (take (entries_in e) (entries_after s at lent)) ≡ numbers_of e (entries_at s at))
entries_back s at end lent enough (Settings x) q = (omega arith, refl)
entries_back s at end lent enough (Away quote) q = (omega arith, refl)
entries_back s at end lent enough (Submit tenant count) q =
    let i = submitted s at tenant count end lent q enough in
    (omega (arith, i.1), ap (numbers_of (Submit tenant count)) i.3)
entries_back s at end lent enough Turn q = (omega arith, refl)
entries_back s at end lent enough Open q = (omega arith, refl)
