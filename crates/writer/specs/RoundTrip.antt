-- What the writer is for: what was written reads back, what was read is written back, and each refusal is given exactly
-- in its case. The proofs stand in RoundTripProof.
use Rattle.std.specs.Prelude.{◌≡◌, ◌↔◌, List, ◌++◌, ℕ, ◌+◌, ◌-◌, ◌≤◌, ◌<◌, length, take, drop, Some, Ok, Err}
use Rattle.numeral.specs.Laws.{Bytes}
use Rattle.tape.specs.declared.Event.{Event}
use Rattle.tape.specs.Tape.{event_at, entries_at, entries_of}
pub use Rattle.tape.specs.Refusals.{RefusedBy}
use Rattle.tape.specs.Depth.{most_bytes}
use Rattle.tape.specs.Leads.{encode_all, Fit}
use Rattle.tape.specs.Spelling.{Spells, numbers_of}
use Rattle.tape.specs.Whole.{ended, refused, read_all}
use Rattle.writer.specs.Write.{write_refusal, buffer_after}
use Rattle.writer.specs.Tapes.{IsEvent, Events, tape_of, events_of}
use Rattle.writer.specs.Rewriting.{rewritten_after}

-- the reader takes numbers: given their bytes, it reads one event, which ends where they end
abbrev pub Taken : List ℕ → Type 0
Taken vs = (e : Event) × (event_at (encode_all vs) 0 ≡ Ok (Some (e, length (encode_all vs))))

pub record RoundTrip : Type 0 where
  -- 41 exactly for numbers that are not one event; 40 exactly for an event whose length exceeds the room
  pub not_one : (vs : List ℕ) (room : ℕ) → (write_refusal vs room ≡ 41) ↔ (IsEvent vs → ⊥)
  pub no_room : (vs : List ℕ) (room : ℕ) → (write_refusal vs room ≡ 40) ↔ (IsEvent vs × (room < length (encode_all vs)))
  pub accepted : (vs : List ℕ) (room : ℕ) → (write_refusal vs room ≡ 0) ↔ (IsEvent vs × (length (encode_all vs) ≤ room))
  -- they are just the numbers that the reader takes
  pub taken : (vs : List ℕ) → Fit vs → IsEvent vs ↔ Taken vs
  -- the longest event has room in 615 bytes
  pub never_short : (vs : List ℕ) (room : ℕ) → most_bytes ≤ room → write_refusal vs room ≡ 40 → ⊥
  -- a refused event leaves every byte as found, and another those past the bytes used
  pub left : (vs was : List ℕ) → 0 < write_refusal vs (length was) → buffer_after vs was ≡ was
  pub written : (vs was : List ℕ) → write_refusal vs (length was) ≡ 0 → buffer_after vs was ≡ encode_all vs ++ drop (length (encode_all vs)) was
  -- what was written reads back as the same event, wherever it stands and whatever stands behind
  pub reads_back :
      (front vs rest : List ℕ) (e : Event) → Fit vs → Spells vs e →
      (event_at (front ++ (encode_all vs ++ rest)) (length front) ≡ Ok (Some (e, length front + length (encode_all vs)))) ×
      (entries_at (front ++ (encode_all vs ++ rest)) (length front) ≡ entries_of vs)
  -- a list of events written one behind the other reads back as that list, to the end
  pub tape_reads_back : (all : List (List ℕ)) → Events all → (events_of (read_all (tape_of all)) ≡ all) × ((read_all (tape_of all)).ending ≡ ended)
  -- what was read is written back as the same bytes: those from its place to its end
  pub writes_back :
      (s : List ℕ) (at : ℕ) (e : Event) (end : ℕ) → Bytes s → event_at s at ≡ Ok (Some (e, end)) →
      encode_all (numbers_of e (entries_at s at)) ≡ take (end - at) (drop at s)
  -- and so `rewrite` leaves them, with room for the longest event
  pub rewrites :
      (s : List ℕ) (at : ℕ) (e : Event) (end : ℕ) (out : List ℕ) → Bytes s → event_at s at ≡ Ok (Some (e, end)) → most_bytes ≤ length out →
      rewritten_after s at out ≡ take (end - at) (drop at s) ++ drop (end - at) out
  -- so are all events of a tape that is read to its end,
  pub tape_writes_back : (s : List ℕ) → Bytes s → (read_all s).ending ≡ ended → tape_of (events_of (read_all s)) ≡ s
  -- and of a refused one those before the event that is refused, at the place q
  pub front_writes_back :
      (s : List ℕ) (code p : ℕ) → Bytes s → (read_all s).ending ≡ refused code p →
      (q : ℕ) × RefusedBy s q code p × (tape_of (events_of (read_all s)) ≡ take q s)
  -- and none of them is refused as no event
  pub events_are : (s : List ℕ) → Bytes s → Events (events_of (read_all s))
