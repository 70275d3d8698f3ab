-- A whole tape by its events, one after the other.
use Rattle.std.specs.Prelude.{◌≡◌, refl, List, ℕ, zero, suc, ◌-◌, ◌≤◌, length, Some, None, Ok, Err}
use Rattle.std.proofs.Common.{◌∙◌, arith}
use Rattle.tape.specs.declared.Event.{Event}
use Rattle.tape.specs.Tape.{Reading, event_at, entries_at}
use Rattle.tape.specs.TapeLaws.{past_tape, place}
use Rattle.tape.specs.Whole.{Whole, read_by, read_most, read_from}

-- only the end of an event matters to what follows it
then_same :
    (s : List ℕ) (at : ℕ) (f g : ℕ → Whole) → ((e : Event) (end : ℕ) → event_at s at ≡ Ok (Some (e, end)) → f end ≡ g end) →
    read_by (entries_at s at) f (event_at s at) ≡ read_by (entries_at s at) g (event_at s at)
then_same s at f g same = go (event_at s at) refl
  where
    go : (x : Reading) → event_at s at ≡ x → read_by (entries_at s at) f x ≡ read_by (entries_at s at) g x
    go (Ok (Some (e, end))) q = rw (same e end q)
    go (Err r) q = refl
    go (Ok None) q = refl

-- more events than bytes are never read
read_enough : (n k : ℕ) (s : List ℕ) (at : ℕ) → length s - at ≤ n → length s - at ≤ k → read_most n s at ≡ read_most k s at
unfolding read_most
read_enough zero zero s at h j = refl
read_enough zero (suc k) s at h j = rw (past_tape s at (omega arith))
read_enough (suc n) zero s at h j = rw (past_tape s at (omega arith))
read_enough (suc n) (suc k) s at h j =
    then_same s at (read_most n s) (read_most k s)
    (λ e end q. let p = place s at e end q in read_enough n k s end (omega (arith, p.0)) (omega (arith, p.0)))

-- the event at a place, then what the tape holds from its end on
pub read_next : (s : List ℕ) (at : ℕ) → read_from s at ≡ read_by (entries_at s at) (read_from s) (event_at s at)
unfolding read_most
read_next s at =
    read_enough (length s - at) (suc (length s - at)) s at (omega arith) (omega arith)
    ∙ then_same s at (read_most (length s - at) s) (read_from s)
    (λ e end q. let p = place s at e end q in read_enough (length s - at) (length s - end) s end (omega (arith, p.0)) (omega arith))
