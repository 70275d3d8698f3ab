-- Texts and what they give, computed: lines of the worked example, and lines that are refused.
use Rattle.std.specs.Prelude.{◌≡◌, refl, List, [], ◌∷◌, ℕ}
use Rattle.units.specs.Tests.{◌and◌, ◌or◌, is_not, pick}
use Rattle.units.specs.Decimal.{spelled, decimal}
use Rattle.numeral.specs.Encode.{encode_in}
use Rattle.entry.specs.Numbers.{from1to}
use Rattle.tape.specs.Tape.{numbers, settings, away, entries, submit, form_in, form_of, event}
use Rattle.tape.specs.Leads.{encode_all}
use Rattle.tape.specs.One.{one_event}
use Rattle.writer.specs.Write.{write_refusal}
use Rattle.figures.specs.Figures.{figures_of, line_of, text_of}
use Rattle.figures.specs.Reading.{misplaced, digit_of, can_end, end_of, numbers_after, writing, line_end, byte_of}
use Rattle.figures.specs.Whole.{ended, refused, in_line, last_code, inscribed_from, inscribed}

-- settings with a strike of 10000, an opening, and tenant 2 that buys 5 at 100 for the day
abbrev events : List (List ℕ)
events =
    (1 ∷ 1 ∷ 1 ∷ 1 ∷ 10000 ∷ 10 ∷ 20 ∷ 10 ∷ 25 ∷ 500 ∷ 0 ∷ 0 ∷ [])
    ∷ (5 ∷ [])
    ∷ (3 ∷ 2 ∷ 1 ∷ 1 ∷ 1 ∷ 1 ∷ 100 ∷ 5 ∷ 0 ∷ [])
    ∷ []

abbrev tape : List ℕ
tape =
    1 ∷ 1 ∷ 1 ∷ 1 ∷ 0x90 ∷ 0x4e ∷ 10 ∷ 20 ∷ 10 ∷ 25 ∷ 0xf4 ∷ 0x03 ∷ 0 ∷ 0
    ∷ 5
    ∷ 3 ∷ 2 ∷ 1 ∷ 1 ∷ 1 ∷ 1 ∷ 100 ∷ 5 ∷ 0
    ∷ []

-- `3 2 1` as it stands in a line
spelt : line_of (3 ∷ 2 ∷ 1 ∷ []) ≡ 51 ∷ 32 ∷ 50 ∷ 32 ∷ 49 ∷ 10 ∷ []
unfolding figures_of line_of decimal spelled
spelt = refl

worked : inscribed (text_of events) ≡ record { bytes = tape; ending = ended }
unfolding figures_of line_of text_of decimal spelled ◌and◌ ◌or◌ is_not pick encode_in from1to numbers settings away entries submit form_in form_of event encode_all one_event write_refusal
    misplaced digit_of can_end end_of numbers_after writing line_end byte_of in_line last_code inscribed_from inscribed
worked = refl

-- the empty text; a zero in front (`04`); an empty line behind a turn (`4`); a turn without its newline; two spaces
-- between numbers; 0, which is no event
others :
    (inscribed [] ≡ record { bytes = []; ending = ended }) ×
    (inscribed (48 ∷ 52 ∷ 10 ∷ []) ≡ record { bytes = []; ending = refused 41 1 }) ×
    (inscribed (52 ∷ 10 ∷ 10 ∷ 52 ∷ 10 ∷ []) ≡ record { bytes = 4 ∷ []; ending = refused 41 2 }) ×
    (inscribed (52 ∷ 10 ∷ 52 ∷ []) ≡ record { bytes = 4 ∷ []; ending = refused 41 2 }) ×
    (inscribed (50 ∷ 32 ∷ 32 ∷ 48 ∷ 32 ∷ 48 ∷ 10 ∷ []) ≡ record { bytes = []; ending = refused 41 1 }) ×
    (inscribed (48 ∷ 10 ∷ []) ≡ record { bytes = []; ending = refused 41 1 })
unfolding ◌and◌ ◌or◌ is_not pick encode_in from1to numbers settings away entries submit form_in form_of event encode_all one_event write_refusal
    misplaced digit_of can_end end_of numbers_after writing line_end byte_of in_line last_code inscribed_from inscribed
others = (refl, refl, refl, refl, refl, refl)
