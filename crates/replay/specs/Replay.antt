-- One event of a tape: what it makes of the market, and what it prints.
use Rattle.std.specs.Prelude.{◌≡◌, List, ℕ, ◌*◌, take}
use Rattle.lines.specs.Laying.{Room, Laid}
use Rattle.lines.specs.Lines.{set_line, away_line, submit_line}
use Rattle.entry.specs.declared.Away.{Away}
use Rattle.entry.specs.declared.Settings as entry
use Rattle.entry.specs.Numbers.{entry_numbers}
use Rattle.tape.specs.declared.Event.{Event}
use Rattle.tape.specs.declared.Event.TheVariants as event
use Rattle.session.specs.TurnAnswer.{TurnAnswer}
use Rattle.session.specs.OpenAnswer.{OpenAnswer}
use Rattle.session.specs.Market.{Market, Called}
use Rattle.session.specs.Sound.{Sound}
use Rattle.session.specs.Settings.{settings_of, away_of}
use Rattle.session.specs.Submit.{submit_of}
use Rattle.fills.specs.Calls.{Stored, empty_row, turn_with, open_with}
use Rattle.replay.specs.Listing.{longest_event, turn_lines, open_lines}

-- what an event makes of the market, and the bytes that it prints
pub record Printed : Type 0 where
  pub market : Market
  pub bytes : List ℕ

-- settings, away and submit print their code
abbrev pub called : (ℕ → List ℕ) → Called → Printed
called line c = record { market = c.market; bytes = line c.code }

-- `set C`
unfoldable pub settings_printed : Market → entry.Settings → Printed
settings_printed m given = called set_line (settings_of m given)

-- `away C`
unfoldable pub away_printed : Market → Away → Printed
away_printed m quote = called away_line (away_of m quote.bid quote.offer)

-- `submit C`; the numbers of a bulk's entries are the first of those lent
unfoldable pub submit_printed : Market → ℕ → ℕ → List ℕ → Printed
submit_printed m tenant count lent = called submit_line (submit_of m tenant count (take (entry_numbers * count) lent))

-- a turn prints its line and its fills; the program lends it a row of empty fills, one for each row of the book
abbrev pub turned : Stored TurnAnswer → Printed
turned d = record { market = d.market; bytes = turn_lines d.answer d.fills }

unfoldable pub turn_printed : Market → Printed
turn_printed m = turned (turn_with m empty_row)

-- an opening prints its line, its fills, and what is gone between the book before and after
abbrev pub opened : Market → Stored OpenAnswer → Printed
opened m d = record {
  market = d.market;
  bytes = open_lines d.answer m.book.sizes d.market.book.sizes m.book.numbers d.fills;
}

unfoldable pub open_printed : Market → Printed
open_printed m = opened m (open_with m empty_row)

-- an event by what it is, with the numbers lent for its entries
unfoldable pub event_printed : Market → Event → List ℕ → Printed
event_printed m (event.Settings given) lent = settings_printed m given
event_printed m (event.Away quote) lent = away_printed m quote
event_printed m (event.Submit tenant count) lent = submit_printed m tenant count lent
event_printed m event.Turn lent = turn_printed m
event_printed m event.Open lent = open_printed m

-- what an event asks: a sound market, and room for the longest event
pub record CanReplay (m : Market) (out : List ℕ) (start : ℕ) : Type 0 where
  pub sound : Sound m
  pub room : Room out start longest_event

-- what an event leaves: exactly what it makes, its bytes from the place `start` on, and what the next event asks
pub record Replayed (p : Printed) (out : List ℕ) (start : ℕ) (m : Market) (lent : List ℕ) (r : ℕ) : Type 0 where
  pub market : m ≡ p.market
  pub laid : Laid out start p.bytes longest_event lent r
  pub sound : Sound m
