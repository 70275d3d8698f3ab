-- The numbers of one event, as the writer takes them: there are some, and where there is room for the longest event
-- more room makes no difference.
use Rattle.std.specs.Prelude.{◌≡◌, refl, Bool, true, false, List, [], ◌∷◌, ℕ, ◌≤◌, ◌<◌, length}
use Rattle.std.proofs.Common.{sym, ◌∙◌, true≢false, arith, length-append}
use Rattle.units.specs.Tests.{is_not, pick}
use Rattle.numeral.specs.Encode.{encode}
use Rattle.numeral.specs.Writing.{bytes_some}
use Rattle.tape.specs.Tape.{event}
use Rattle.tape.specs.Leads.{encode_all}
use Rattle.tape.specs.Depth.{most_bytes}
use Rattle.tape.specs.One.{one_event}
use Rattle.tape.specs.OneLaws.{one_none}
use Rattle.writer.specs.Write.{write_refusal}
use Rattle.writer.specs.Tapes.{Writable}
use Rattle.writer.specs.WriteLaws.{event_says, never_short}
use Rattle.figures.specs.Reading.{not_one}

-- an event is one as the writer asks
pub one_of : (vs : List ℕ) → Writable vs → one_event event vs ≡ true
one_of vs is = (event_says vs).1 is.1

-- no event has no numbers
pub one_some : (vs : List ℕ) → one_event event vs ≡ true → 0 < length vs
one_some [] e = absurd (true≢false (sym e ∙ sym (one_none [] refl)))
one_some (v ∷ vs) e = omega arith

-- and none has no bytes
pub event_bytes : (vs : List ℕ) → one_event event vs ≡ true → 0 < length (encode_all vs)
unfolding encode_all
event_bytes [] h = absurd (omega (arith, one_some [] h))
event_bytes (v ∷ vs) h = omega (arith, length-append (encode v) (encode_all vs), bytes_some 4 v)

-- numbers that are not one event are refused by 41
pub other_refused : (vs : List ℕ) (room : ℕ) → one_event event vs ≡ false → write_refusal vs room ≡ not_one
unfolding write_refusal is_not pick
other_refused vs room e = rw e

pub same_refusal : (vs : List ℕ) (room : ℕ) → most_bytes ≤ room → write_refusal vs room ≡ write_refusal vs most_bytes
same_refusal vs room h = go (one_event event vs) refl
  where
    go : (t : Bool) → one_event event vs ≡ t → write_refusal vs room ≡ write_refusal vs most_bytes
    go true e = never_short vs room h e ∙ sym (never_short vs most_bytes (omega arith) e)
    go false e = other_refused vs room e ∙ sym (other_refused vs most_bytes e)
