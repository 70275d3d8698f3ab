-- The worked example's seven events, and numbers that are just not one event, computed.
use Rattle.std.specs.Prelude.{◌≡◌, refl, List, [], ◌∷◌, ℕ}
use Rattle.units.specs.Tests.{◌and◌, is_not, pick}
use Rattle.numeral.specs.Encode.{encode_in}
use Rattle.entry.specs.Numbers.{from1to}
use Rattle.tape.specs.Tape.{numbers, settings, away, entries, submit, form_in, form_of, event, stored}
use Rattle.tape.specs.Leads.{encode_all}
use Rattle.tape.specs.One.{one_event}
use Rattle.tape.specs.Examples.{worked_tape}
use Rattle.writer.specs.Write.{write_refusal, buffer_after}
use Rattle.writer.specs.Tapes.{tape_of}

-- time class, grid 1, call, strike 10000, D 10, F 20, x 10, least 25, greatest 500, no prints; open; tenant 2 buys 5 at
-- 100 for the day; tenant 7 sells 3 at 100 now; three turns
abbrev worked_events : List (List ℕ)
worked_events =
    (1 ∷ 1 ∷ 1 ∷ 1 ∷ 10000 ∷ 10 ∷ 20 ∷ 10 ∷ 25 ∷ 500 ∷ 0 ∷ 0 ∷ [])
    ∷ (5 ∷ [])
    ∷ (3 ∷ 2 ∷ 1 ∷ 1 ∷ 1 ∷ 1 ∷ 100 ∷ 5 ∷ 0 ∷ [])
    ∷ (3 ∷ 7 ∷ 1 ∷ 1 ∷ 2 ∷ 2 ∷ 100 ∷ 3 ∷ 0 ∷ [])
    ∷ (4 ∷ [])
    ∷ (4 ∷ [])
    ∷ (4 ∷ [])
    ∷ []

worked : tape_of worked_events ≡ worked_tape
unfolding encode_in encode_all tape_of
worked = refl

-- an away quote of four bytes, with just its room and with a byte less; past it the memory stays as found
away_quote :
    (write_refusal (2 ∷ 100 ∷ 300 ∷ []) 4 ≡ 0) × (write_refusal (2 ∷ 100 ∷ 300 ∷ []) 3 ≡ 40) ×
    (buffer_after (2 ∷ 100 ∷ 300 ∷ []) (9 ∷ 9 ∷ 9 ∷ 9 ∷ 9 ∷ []) ≡ 2 ∷ 100 ∷ 0xac ∷ 0x02 ∷ 9 ∷ []) ×
    (buffer_after (2 ∷ 100 ∷ 300 ∷ []) (9 ∷ 9 ∷ 9 ∷ []) ≡ 9 ∷ 9 ∷ 9 ∷ [])
unfolding encode_in encode_all one_event numbers settings away entries submit form_in form_of event write_refusal buffer_after stored pick is_not ◌and◌ from1to
away_quote = (refl, refl, refl, refl)

-- 41, with room and without: no numbers, another event number, a number too few and one too many, two events, a count of
-- 0, and a count of 2 with one entry
not_one :
    (write_refusal [] 615 ≡ 41) × (write_refusal [] 0 ≡ 41) ×
    (write_refusal (0 ∷ []) 615 ≡ 41) × (write_refusal (14 ∷ []) 0 ≡ 41) ×
    (write_refusal (2 ∷ 100 ∷ []) 615 ≡ 41) × (write_refusal (2 ∷ 100 ∷ 105 ∷ 0 ∷ []) 0 ≡ 41) ×
    (write_refusal (4 ∷ 4 ∷ []) 615 ≡ 41) ×
    (write_refusal (3 ∷ 2 ∷ 0 ∷ []) 615 ≡ 41) × (write_refusal (3 ∷ 2 ∷ 2 ∷ 1 ∷ 1 ∷ 1 ∷ 100 ∷ 5 ∷ 0 ∷ []) 615 ≡ 41)
unfolding encode_in encode_all one_event numbers settings away entries submit form_in form_of event write_refusal pick is_not ◌and◌ from1to
not_one = (refl, refl, refl, refl, refl, refl, refl, refl, refl)
