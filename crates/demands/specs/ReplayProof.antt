-- Replay's step is the run's step, by the definitions; and what an opening prints as gone are the cancelled orders,
-- since what is told from the books before and after is what the opening cancels (`gone_is_cancelled`), listed whole
-- and rising.
use Rattle.std.specs.Prelude.{◌≡◌, refl, ◌↔◌, ◌⊎◌, Bool, true, false, List, [], ◌∷◌, ◌++◌, ℕ, zero, suc, ◌≤◌, ◌<◌, length}
use Rattle.std.proofs.Common.{sym, ◌∙◌, append-nil, arith}
use Rattle.std.proofs.Math.Path.{ap, subst}
use Rattle.std.proofs.Math.Logic.{⊎_elim}
use Rattle.units.specs.Tests.{holds_not_fails}
use Rattle.units.specs.Says.{less_says, &&-says}
use Rattle.units.specs.Picked.{keep}
use Rattle.units.specs.Places.{at}
use Rattle.rows.specs.Rows.{rows, no_number}
use Rattle.book.specs.Book.{Book, size_at, number_at, crosses}
use Rattle.book.specs.declared.Fill.{Fill}
use Rattle.book.specs.Fills.{stored}
use Rattle.book.specs.Sound.{SoundBook}
use Rattle.book.specs.SoundLaws.{row_of}
use Rattle.opening.specs.Opening.{after_opening, opening_records, opening_written, gone as cancelled}
use Rattle.opening.specs.OpeningLaws.{left_is}
use Rattle.lines.specs.Lines.{open_line}
use Rattle.lines.specs.Gone.{gone_of}
use Rattle.lines.specs.GoneLaws.{none_gone}
use Rattle.lines.specs.Cancelled.{gone_is_cancelled}
use Rattle.tape.specs.declared.Event.{Event}
use Rattle.tape.specs.declared.Event.TheVariants as event
use Rattle.tape.specs.Whole.{Sent, read_all}
use Rattle.session.specs.Market.{Market}
use Rattle.session.specs.Sound.{Sound}
use Rattle.session.specs.Open.{OpenDone, Line, refused_by, opened_at, printed, fills_in, open_refusal, open_quiet, open_at}
use Rattle.fills.specs.Calls.{blank, empty_row}
use Rattle.replay.specs.Listing.{fill_lines, rising, gone_each, gone_lines, open_line_of, open_lines}
use Rattle.replay.specs.RisingLaws.{Listed, InColumn, Rising, none, next, rises, all_listed}
use Rattle.replay.specs.Replay.{settings_printed, away_printed, submit_printed, turn_printed, open_printed as open_event, event_printed}
use Rattle.replay.specs.Output.{lines_of, last_line, printed_on, new_market, output_of}
use Rattle.demands.specs.Runs.{step}
use Rattle.demands.specs.OpenCases.{Outcome, refused, quiet, opens, open_set, outcome}
use Rattle.demands.specs.Demand2.{once_filled, Cancelled}
use Rattle.demands.specs.Demand2Opening.{goes_says}
use Rattle.demands.specs.Replay.{call_of, call_lines, calls_of, run_lines, Rises, GoneTold, ReplayRight}

-- ---- an event is a call

same_market : (m : Market) (e : Event) (lent : List ℕ) → (event_printed m e lent).market ≡ (step m (call_of e lent)).market
unfolding event_printed settings_printed away_printed submit_printed turn_printed open_event
same_market m (event.Settings given) lent = refl
same_market m (event.Away quote) lent = refl
same_market m (event.Submit tenant count) lent = refl
same_market m event.Turn lent = refl
same_market m event.Open lent = refl

same_lines : (m : Market) (e : Event) (lent : List ℕ) → (event_printed m e lent).bytes ≡ call_lines m (call_of e lent) (step m (call_of e lent))
unfolding event_printed settings_printed away_printed submit_printed turn_printed open_event
same_lines m (event.Settings given) lent = refl
same_lines m (event.Away quote) lent = refl
same_lines m (event.Submit tenant count) lent = refl
same_lines m event.Turn lent = refl
same_lines m event.Open lent = refl

tape_lines : (m : Market) (xs : List Sent) → lines_of m xs ≡ run_lines m (calls_of xs)
unfolding lines_of
tape_lines m [] = refl
tape_lines m (x ∷ xs) =
    let p = event_printed m x.event x.numbers in
    let c = call_of x.event x.numbers in
    ap (λ (l : List ℕ). l ++ lines_of p.market xs) (same_lines m x.event x.numbers)
    ∙ ap (λ (l : List ℕ). call_lines m c (step m c) ++ l)
    (ap (λ (after : Market). lines_of after xs) (same_market m x.event x.numbers) ∙ tape_lines (step m c).market xs)

tape_told : (tape : List ℕ) → output_of tape ≡ run_lines new_market (calls_of (read_all tape).events) ++ last_line (read_all tape).ending
unfolding output_of printed_on
tape_told tape = ap (λ (l : List ℕ). l ++ last_line (read_all tape).ending) (tape_lines new_market (read_all tape).events)

-- ---- what a column lists

rises_so : (column : List ℕ) {last : ℕ} {ns : List ℕ} → Rising column last ns → Rises last ns
rises_so column none = tt
rises_so column (next above in_column rest) = (above, rises_so column rest)

-- a listed number is above the last and stands in the column
listed_in : (column : List ℕ) {last : ℕ} {ns : List ℕ} → Rising column last ns → (j : ℕ) → j < length ns → (last < at ns j) × InColumn (at ns j) column
listed_in column none j h = absurd (omega arith)
listed_in column (next above in_column rest) zero h = (above, in_column)
listed_in column (next above in_column rest) (suc j) h =
    let (further, found) = listed_in column rest j (omega arith) in
    (omega arith, found)

-- a column of zeros lists nothing
nothing_listed : (column : List ℕ) → ((i : ℕ) → i < rows → at column i ≡ 0) → {ns : List ℕ} → Rising column 0 ns → ns ≡ []
nothing_listed column zeros none = refl
nothing_listed column zeros (next above (i, p, e) rest) = absurd (omega (arith, zeros i p))

no_lines : (sizes numbers : List ℕ) (row : List Fill) (fills : ℕ) → gone_lines (gone_of sizes sizes numbers row fills) ≡ []
unfolding gone_lines gone_each
no_lines sizes numbers row fills =
    let column = gone_of sizes sizes numbers row fills in
    ap gone_each (nothing_listed column (none_gone sizes numbers row fills) (rises rows column 0))

-- ---- what an opening lists

kept_yes : (t : Bool) (x n : ℕ) → keep t x ≡ n → 0 < n → (t ≡ true) × (x ≡ n)
kept_yes true x n e h = (refl, e)
kept_yes false x n e h = absurd (omega arith)

module _ (m : Market) (p : ℕ) (next : ℕ) (sound : SoundBook m.book next) (few : next ≤ no_number) where
  abbrev b : Book
  b = m.book

  -- something was left of the row, and it goes
  gone_says : (i : ℕ) → (cancelled b p i ≡ true) ↔ ((0 < size_at (once_filled m p) i) × Cancelled m p i)
  unfolding cancelled
  gone_says i = &&-says (less_says 0 _) (goes_says m p i)

  abbrev column : List ℕ
  column = gone_of b.sizes (after_opening b p).sizes b.numbers (stored (opening_written b p blank) (opening_records b p) empty_row) (opening_records b p)

  abbrev GoneRow : ℕ → Type 0
  GoneRow n = (i : ℕ) × (i < b.places) × (0 < size_at (once_filled m p) i) × Cancelled m p i × (number_at b i ≡ n)

  told : (n : ℕ) → Listed n (rising rows column 0) → GoneRow n
  told n (j, h, is) =
      let (above, (i, inside, stands)) = listed_in column (rises rows column 0) j h in
      let (holds, numbered) = kept_yes (cancelled b p i) (number_at b i) n (sym (gone_is_cancelled b next p sound blank empty_row i inside) ∙ (stands ∙ is)) (omega arith) in
      let (left, goes) = (gone_says i).0 holds in
      (i, omega (arith, inside, sound.places), left, goes, numbered)

  lists : (n : ℕ) → GoneRow n → Listed n (rising rows column 0)
  lists n (i, h, left, goes, numbered) =
      let inside : i < rows = omega (arith, h, sound.places) in
      let rests : 0 < size_at b i = omega (arith, left_is b p i h, left) in
      let row = row_of sound i h rests in
      let stands : at column i ≡ n = gone_is_cancelled b next p sound blank empty_row i inside ∙ (ap (λ t. keep t (number_at b i)) ((gone_says i).1 (left, goes)) ∙ numbered) in
      rw (← stands) (all_listed column i inside (omega (arith, row.number_least)) (omega (arith, row.number_most)))

  gone_told : GoneTold m p (rising rows column 0)
  gone_told = record { rising = rises_so column (rises rows column 0); exactly = λ n. (told n, lists n) }

-- ---- what an opening prints

module _ (m : Market) where
  -- the lines of what an open left
  abbrev told_of : OpenDone → List ℕ
  told_of d = open_lines d.answer m.book.sizes d.market.book.sizes m.book.numbers (stored d.records (fills_in d.answer) empty_row)

  prints_gone : (price volume : ℕ) → Sound m → crosses m.book ≡ true → {d : OpenDone} → Outcome m rows blank d → printed d.answer ≡ opened_at price volume
      → (ns : List ℕ) × GoneTold m price ns
      × (told_of d ≡ open_line 0 price volume ++ fill_lines (stored d.records (fills_in d.answer) empty_row) (fills_in d.answer) ++ gone_each ns)
  unfolding open_lines open_at gone_lines
  prints_gone price volume sound c (refused h) x = absurd (omega (arith, ap (λ (l : Line). l.code) x))
  prints_gone price volume sound c (quiet e q) x = absurd (holds_not_fails c q)
  prints_gone price volume sound c (opens p e _ f) x =
      let held = sound (open_set m rows e) in
      let ns = rising rows (column m p.0 m.session.next held.ready.book held.ready.next_most) 0 in (
        ns,
        subst (λ k. GoneTold m k ns) (ap (λ (l : Line). l.price) x) (gone_told m p.0 m.session.next held.ready.book held.ready.next_most),
        ap (λ (l : Line). open_line_of l ++ fill_lines (stored (opening_written m.book p.0 blank) (opening_records m.book p.0) empty_row) (opening_records m.book p.0) ++ gone_each ns) x,
      )

  -- a book that is as it was has no orders gone
  alone : (l : Line) (row : List Fill) → open_line_of l ++ [] ++ gone_lines (gone_of m.book.sizes m.book.sizes m.book.numbers row 0) ≡ open_line_of l
  alone l row =
      ap (λ (ns : List ℕ). open_line_of l ++ [] ++ ns) (no_lines m.book.sizes m.book.numbers row 0)
      ∙ (append-nil (open_line_of l ++ []) ∙ append-nil (open_line_of l))

  prints_none : {d : OpenDone} → Outcome m rows blank d → (0 < (printed d.answer).code) ⊎ (crosses m.book ≡ false) → told_of d ≡ open_line_of (printed d.answer)
  unfolding open_lines open_at open_quiet fill_lines
  prints_none (refused h) said = alone (refused_by (open_refusal m rows)) _
  prints_none (quiet e c) said = alone (opened_at 0 0) _
  prints_none (opens p e c f) said = ⊎_elim (λ k. absurd (omega arith)) (λ q. absurd (holds_not_fails c q)) said

pub replay_right : ReplayRight
unfolding event_printed open_event
replay_right = record {
  market = same_market;
  lines = same_lines;
  tape = tape_told;
  gone = λ m lent price volume sound c is. prints_gone m price volume sound c (outcome m rows blank) is;
  none_gone = λ m lent said. prints_none m (outcome m rows blank) said;
}
