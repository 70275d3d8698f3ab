-- Events of the paper's worked example, and the ends of each refusal, computed.
use Rattle.std.specs.Prelude.{◌≡◌, refl, List, [], ◌∷◌, ℕ, Some, None, Ok, Err}
use Rattle.units.specs.Tests.{◌and◌}
use Rattle.entry.specs.Numbers.{from1to}
use Rattle.numeral.specs.Number.{number_in, number_at}
use Rattle.tape.specs.declared.Event.TheVariants.{Settings, Submit, Turn, Open}
use Rattle.numeral.specs.declared.Refusal.TheVariants.{CutShort, Padded}
use Rattle.tape.specs.declared.Refusal.TheVariants.{Number, NoSuchEvent, NoSuchCount}
use Rattle.tape.specs.Tape.{refusal_at, numbers, settings, away, entries, submit, form_in, form_of, event, reading, event_at, numbers_at, entries_of, stored, entries_after, settings_of}

-- time class, grid 1, call, strike 10000, D 10, F 20, x 10, least 25, greatest 500, no prints; open; tenant 2 buys 5 at
-- 100 for the day; tenant 7 sells 3 at 100 now; three turns
abbrev pub worked_tape : List ℕ
worked_tape =
    1 ∷ 1 ∷ 1 ∷ 1 ∷ 0x90 ∷ 0x4e ∷ 10 ∷ 20 ∷ 10 ∷ 25 ∷ 0xf4 ∷ 0x03 ∷ 0 ∷ 0
    ∷ 5
    ∷ 3 ∷ 2 ∷ 1 ∷ 1 ∷ 1 ∷ 1 ∷ 100 ∷ 5 ∷ 0
    ∷ 3 ∷ 7 ∷ 1 ∷ 1 ∷ 2 ∷ 2 ∷ 100 ∷ 3 ∷ 0
    ∷ 4 ∷ 4 ∷ 4
    ∷ []

worked :
    (event_at worked_tape 0 ≡ Ok (Some (Settings (settings_of (1 ∷ 1 ∷ 1 ∷ 10000 ∷ 10 ∷ 20 ∷ 10 ∷ 25 ∷ 500 ∷ 0 ∷ 0 ∷ [])), 14))) ×
    (event_at worked_tape 14 ≡ Ok (Some (Open, 15))) ×
    (event_at worked_tape 15 ≡ Ok (Some (Submit 2 1, 24))) ×
    (entries_after worked_tape 15 (9 ∷ 9 ∷ 9 ∷ 9 ∷ 9 ∷ 9 ∷ 9 ∷ []) ≡ 1 ∷ 1 ∷ 1 ∷ 100 ∷ 5 ∷ 0 ∷ 9 ∷ []) ×
    (event_at worked_tape 24 ≡ Ok (Some (Submit 7 1, 33))) ×
    (event_at worked_tape 33 ≡ Ok (Some (Turn, 34))) ×
    (event_at worked_tape 36 ≡ Ok None)
unfolding number_in number_at numbers settings away entries submit form_in form_of event reading event_at numbers_at entries_of stored entries_after ◌and◌ from1to
worked = (refl, refl, refl, refl, refl, refl, refl)

-- 33 another event number, 0, 14, 133 (whose first group is 5) or 4,294,967,295, and 34 a count of 0 or 21, each as
-- soon as it is read and at its own place; a count of 20 goes on to its entries
refusals :
    (event_at (0x80 ∷ 0x00 ∷ []) 0 ≡ Err (refusal_at (Number Padded) 0)) ×
    (event_at (14 ∷ []) 0 ≡ Err (refusal_at NoSuchEvent 0)) × (event_at (0 ∷ []) 0 ≡ Err (refusal_at NoSuchEvent 0)) × (event_at (4 ∷ 0x85 ∷ 0x01 ∷ []) 1 ≡ Err (refusal_at NoSuchEvent 1)) ×
    (event_at (0xff ∷ 0xff ∷ 0xff ∷ 0xff ∷ 0x0f ∷ []) 0 ≡ Err (refusal_at NoSuchEvent 0)) ×
    (event_at (3 ∷ 2 ∷ 0 ∷ []) 0 ≡ Err (refusal_at NoSuchCount 2)) × (event_at (3 ∷ 2 ∷ 21 ∷ []) 0 ≡ Err (refusal_at NoSuchCount 2)) ×
    (event_at (3 ∷ 2 ∷ 20 ∷ []) 0 ≡ Err (refusal_at (Number CutShort) 3)) ×
    (event_at (2 ∷ 100 ∷ 0x80 ∷ 0x00 ∷ []) 0 ≡ Err (refusal_at (Number Padded) 2)) ×
    (event_at (2 ∷ 0xe4 ∷ 0x00 ∷ []) 0 ≡ Err (refusal_at (Number Padded) 1)) ×
    (event_at [] 0 ≡ Ok None)
unfolding number_in number_at numbers settings away entries submit form_in form_of event reading event_at ◌and◌ from1to
refusals = (refl, refl, refl, refl, refl, refl, refl, refl, refl, refl, refl)

-- a bulk that is cut short has its first numbers stored; memory too short for it takes what it holds
cut :
    (entries_after (3 ∷ 2 ∷ 1 ∷ 1 ∷ 2 ∷ []) 0 (9 ∷ 9 ∷ 9 ∷ []) ≡ 1 ∷ 2 ∷ 9 ∷ []) ×
    (entries_after (3 ∷ 2 ∷ 1 ∷ 1 ∷ 1 ∷ 1 ∷ 100 ∷ 5 ∷ 0 ∷ []) 0 (9 ∷ 9 ∷ []) ≡ 1 ∷ 1 ∷ []) ×
    (entries_after (2 ∷ 100 ∷ 105 ∷ []) 0 (9 ∷ 9 ∷ []) ≡ 9 ∷ 9 ∷ [])
unfolding number_in number_at numbers settings away entries submit form_in form_of event reading event_at numbers_at entries_of stored entries_after ◌and◌ from1to
cut = (refl, refl, refl)
