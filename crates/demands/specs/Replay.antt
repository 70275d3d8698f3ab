-- A tape's events are calls of a run: what an event makes of the market is what the run's step makes, and what it
-- prints are the lines of that step's answer. The proofs stand in ReplayProof.
use Rattle.std.specs.Prelude.{◌≡◌, ◌↔◌, ◌⊎◌, true, false, List, [], ◌∷◌, ◌++◌, ℕ, ◌*◌, ◌<◌, take}
use Rattle.rows.specs.Rows.{rows}
use Rattle.book.specs.Book.{size_at, number_at, crosses}
use Rattle.book.specs.Fills.{stored}
use Rattle.lines.specs.Lines.{set_line, away_line, submit_line, open_line}
use Rattle.entry.specs.Numbers.{entry_numbers}
use Rattle.tape.specs.declared.Event.{Event}
use Rattle.tape.specs.declared.Event.TheVariants as event
use Rattle.tape.specs.Whole.{Sent, read_all}
use Rattle.session.specs.Market.{Market}
use Rattle.session.specs.Sound.{Sound}
use Rattle.session.specs.Turn.{fills_in}
use Rattle.session.specs.Open.{opened_at, fills_in as fills_opened}
use Rattle.fills.specs.Calls.{blank, empty_row, open_with}
use Rattle.replay.specs.Listing.{fill_lines, gone_each, turn_lines, open_line_of, open_lines}
use Rattle.replay.specs.RisingLaws.{Listed}
use Rattle.replay.specs.Replay.{event_printed}
use Rattle.replay.specs.Output.{last_line, new_market, output_of}
use Rattle.demands.specs.Runs.{Call, settings, away, submit, turn, opening, Answer, coded, turned, opened, Done, step}
use Rattle.demands.specs.Demand2.{open_printed, open_fills, once_filled, Cancelled}

-- the call that an event is, with the numbers of its entries; 216 fill records are lent
abbrev pub call_of : Event → List ℕ → Call
call_of (event.Settings given) lent = settings given
call_of (event.Away quote) lent = away quote.bid quote.offer
call_of (event.Submit tenant count) lent = submit tenant count (take (entry_numbers * count) lent)
call_of event.Turn lent = turn rows blank
call_of event.Open lent = opening rows blank

-- what settings, away and submit answer
abbrev code_in : Answer → ℕ
code_in (coded code) = code
code_in (turned a) = 0
code_in (opened a) = 0

-- the lines of a turn's answer, with the fills that it wrote
abbrev turn_told : Answer → List ℕ → List ℕ
turn_told (coded code) records = []
turn_told (turned a) records = turn_lines a (stored records (fills_in a) empty_row)
turn_told (opened a) records = []

-- those of an opening's, between two books
abbrev open_told : Market → Market → Answer → List ℕ → List ℕ
open_told m after (coded code) records = []
open_told m after (turned a) records = []
open_told m after (opened a) records =
    open_lines a m.book.sizes after.book.sizes m.book.numbers (stored records (fills_opened a) empty_row)

-- the lines of a call on a market, by what it left
abbrev pub call_lines : Market → Call → Done → List ℕ
call_lines m (settings given) d = set_line (code_in d.answer)
call_lines m (away bid offer) d = away_line (code_in d.answer)
call_lines m (submit tenant count ns) d = submit_line (code_in d.answer)
call_lines m (turn lent was) d = turn_told d.answer d.records
call_lines m (opening lent was) d = open_told m d.market d.answer d.records

-- the calls that events are, one after the other, and the lines of a run of calls
abbrev pub calls_of : List Sent → List Call
calls_of [] = []
calls_of (x ∷ xs) = call_of x.event x.numbers ∷ calls_of xs

abbrev pub run_lines : Market → List Call → List ℕ
run_lines m [] = []
run_lines m (c ∷ cs) = call_lines m c (step m c) ++ run_lines (step m c).market cs

-- each number is above the one before
abbrev pub Rises : ℕ → List ℕ → Type 0
Rises last [] = Unit {0}
Rises last (n ∷ ns) = (last < n) × Rises n ns

-- the numbers told as gone by an opening at a price: those of the cancelled orders, each once, rising
pub record GoneTold (m : Market) (p : ℕ) (ns : List ℕ) : Type 0 where
  pub rising : Rises 0 ns
  -- an order is told exactly if the fills left something of it and it is cancelled
  pub exactly : (n : ℕ) → Listed n ns
      ↔ ((i : ℕ) × (i < m.book.places) × (0 < size_at (once_filled m p) i) × Cancelled m p i × (number_at m.book i ≡ n))

-- Replay's step is the run's step, and its lines are those of document 01.
pub record ReplayRight : Type 0 where
  pub market : (m : Market) (e : Event) (lent : List ℕ) → (event_printed m e lent).market ≡ (step m (call_of e lent)).market
  pub lines : (m : Market) (e : Event) (lent : List ℕ) → (event_printed m e lent).bytes ≡ call_lines m (call_of e lent) (step m (call_of e lent))
  -- so a whole tape prints the lines of the run that its events are, from a new session, then its last line
  pub tape : (tape : List ℕ) → output_of tape ≡ run_lines new_market (calls_of (read_all tape).events) ++ last_line (read_all tape).ending
  -- an opening at a price prints its line, its fills, then a line `gone N` for each cancelled order, rising
  pub gone : (m : Market) (lent : List ℕ) (price volume : ℕ) → Sound m → crosses m.book ≡ true → open_printed m rows blank ≡ opened_at price volume
      → (ns : List ℕ) × GoneTold m price ns × ((event_printed m event.Open lent).bytes
      ≡ open_line 0 price volume ++ fill_lines (open_with m empty_row).fills (open_fills m rows blank) ++ gone_each ns)
  -- a refused one, and one where no resting buy is at or above a resting sell, print their line alone
  pub none_gone : (m : Market) (lent : List ℕ) → (0 < (open_printed m rows blank).code) ⊎ (crosses m.book ≡ false)
      → (event_printed m event.Open lent).bytes ≡ open_line_of (open_printed m rows blank)
