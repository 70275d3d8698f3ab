-- One event of a tape, read and written rewritten.
use Rattle.std.specs.Prelude.{List, ℕ, Option, Some, None, Result, Ok, Err}
use Rattle.tape.specs.declared.Refused.{Refused}
use Rattle.tape.specs.Tape.{Reading, event_at, entries_at}
use Rattle.tape.specs.Spelling.{numbers_of}
use Rattle.writer.specs.declared.rewriting.Rewritten.{Rewritten}
use Rattle.writer.specs.Write.{Written, written_of, buffer_after}

-- by what is read at a place, with the numbers of its entries: the answer, and the lent memory
abbrev pub Answer : Type 0
Answer = Result (Option Rewritten) Refused

abbrev pub written_to : Written → ℕ → Rewritten
written_to written end = record { written = written; end = end }

abbrev pub answer_to : List ℕ → ℕ → Reading → Answer
answer_to entries room (Ok (Some (e, end))) = Ok (Some (written_to (written_of (numbers_of e entries) room) end))
answer_to entries room (Err r) = Err r
answer_to entries room (Ok None) = Ok None

abbrev pub memory_after : List ℕ → List ℕ → Reading → List ℕ
memory_after entries out (Ok (Some (e, end))) = buffer_after (numbers_of e entries) out
memory_after entries out (Err r) = out
memory_after entries out (Ok None) = out

unfoldable pub rewritten_of : List ℕ → ℕ → ℕ → Answer
rewritten_of s at room = answer_to (entries_at s at) room (event_at s at)

unfoldable pub rewritten_after : List ℕ → ℕ → List ℕ → List ℕ
rewritten_after s at out = memory_after (entries_at s at) out (event_at s at)
