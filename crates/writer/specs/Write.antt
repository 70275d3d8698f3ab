-- One event, given as its numbers, written into lent memory.
use Rattle.std.specs.Prelude.{◌≡◌, List, [], ◌∷◌, ℕ, ltb, length, Result, Ok, Err}
use Rattle.units.specs.Tests.{is_not, pick}
use Rattle.units.specs.Cases.{Case, ◌when◌, first_of}
use Rattle.tape.specs.Tape.{event, stored}
use Rattle.tape.specs.Leads.{encode_all}
use Rattle.tape.specs.One.{one_event}
use Rattle.writer.specs.declared.Refusal.{Refusal}
use Rattle.writer.specs.Refusal.{refusal_number, refusal_of}

-- 41 numbers that aren't exactly one event the reader takes; then 40 the event's exact length exceeds the room
abbrev pub write_cases : List ℕ → ℕ → List Case
write_cases vs room =
    (41 when is_not (one_event event vs))
    ∷ (40 when ltb room (length (encode_all vs)))
    ∷ []

unfoldable pub write_refusal : List ℕ → ℕ → ℕ
write_refusal vs room = first_of 0 (write_cases vs room)

-- the bytes used: those of the event, where it is written
unfoldable pub used_bytes : List ℕ → ℕ → ℕ
used_bytes vs room = pick (ltb 0 (write_refusal vs room)) 0 (length (encode_all vs))

-- the answer, and the paper's numbers for it: the refusal, 0 where there is none, and the bytes used
abbrev pub Written : Type 0
Written = Result ℕ Refusal

unfoldable pub written_of : List ℕ → ℕ → Written
written_of vs room = pick (ltb 0 (write_refusal vs room)) (Err (refusal_of (write_refusal vs room))) (Ok (length (encode_all vs)))

abbrev pub code_of : Written → ℕ
code_of (Ok n) = 0
code_of (Err why) = refusal_number why

abbrev pub used_of : Written → ℕ
used_of (Ok n) = n
used_of (Err why) = 0

-- an answer told in them
pub record Told (vs : List ℕ) (room : ℕ) (r : Written) : Type 0 where
  pub code : code_of r ≡ write_refusal vs room
  pub used : used_of r ≡ used_bytes vs room

-- the lent memory: as found where the event is refused; else its bytes from the front, and the rest as found
unfoldable pub buffer_after : List ℕ → List ℕ → List ℕ
buffer_after vs was = pick (ltb 0 (write_refusal vs (length was))) was (stored (encode_all vs) was)
