-- One outcome: for each function that another crate may call, two outcomes that meet its promise are equal, result and
-- lent memory. The promise is cited as its contract has it: `Post`, of the lifetimes, the arguments, the result, and
-- the arguments as the function leaves them; `now` of an argument is what stands in the memory lent by it.
use Rattle.std.specs.Prelude.{◌≡◌, refl, Bool, List, [], ◌∷◌, ℕ, ◌-◌, min, max, Result}
use Rattle.units.specs.Picked.{keep}
use Rattle.units.specs.Tests.{◌and◌, ◌or◌, is_not, pick}
use Rattle.std.proofs.Common.{sym, ◌∙◌, ap}
use base.Logic
use borrow.Fn.World
use contract.Lifetimes
use contract.Monad
use contract.Notation
use types.Logic.{Logic}
use Rattle.std.specs.Borrow.{MutBor}
use denote.Triple.Clauses
use seplogic.Ra.Ura
use prog.Memory
use prog.Routine
use Rattle.dealing.specs.Came.{came_one}
use Rattle.dealing.specs.Way.{way_one}
use Rattle.entry.specs.Refusals.{code_one, turned_down_one}
use Rattle.figures.specs.InscribingLaws.{nexts_differ}
use Rattle.judge.specs.Dispositions.{disposition_one}
use Rattle.judge.specs.JudgedOf.{judged_one}
use Rattle.playing.specs.Next.{next_one}
use Rattle.replay.specs.SteppingLaws.{status_one}
use Rattle.session.specs.OpenAnswer.{open_answer_of, open_answer_one}
use Rattle.session.specs.Tallied.{tallied_one}
use Rattle.session.specs.TurnAnswer.{turn_answer_of, turn_answer_one}
use Rattle.sheet.specs.ReadingLaws.{steps_differ, finishes_differ}
use Rattle.window.specs.Program.{bytes_differ}
use Rattle.entry.proofs.refusal.Refusal.number.Reads as entry_refusal_number
use Rattle.entry.proofs.refusal.TurnDown.number.Reads as entry_turn_down_number
use Rattle.judge.proofs.outcome.Disposition.number.Reads as judge_disposition_number
use Rattle.tape.proofs.Refusal.number.Reads as tape_refusal_number
use Rattle.writer.proofs.Refusal.number.Reads as writer_refusal_number
use Rattle.sheet.proofs.Refusal.number.Reads as sheet_refusal_number
use Rattle.window.proofs.program.Status.byte.Reads as window_status_byte
use Rattle.units.specs.Units.{cents, contracts, total}
use Rattle.tally.specs.declared.Tally.{Tally}
use Rattle.tally.specs.Tallies.{plus}
use Rattle.tally.specs.contracts.add as tally_add
use Rattle.book.specs.Book.{Book, empty_book}
use Rattle.book.specs.Lent.{book_in}
use Rattle.book.specs.declared.Book.{Book as Columns}
use Rattle.book.proofs.Book.new.Reads as book_new
use Rattle.lines.specs.Laying.{Laid}
use Rattle.session.specs.Left.{Opened}
use Rattle.entry.specs.declared.refusal.Refusal.{Refusal}
use Rattle.session.specs.declared.Opening.{Opening}
use Rattle.session.specs.declared.Session.{Session}
use Rattle.session.specs.declared.Taken.{Taken}
use Rattle.session.specs.Left.{Turned}
use Rattle.dealing.specs.Floor.{Made}
use Rattle.session.specs.Market.{Market, Called, market_of, called}
use Rattle.session.specs.Open.{OpenDone, open_called, printed as printed_open}
use Rattle.session.specs.Turn.{TurnDone, turn_called, printed}
use Rattle.book.specs.declared.Fill.{Fill}
use Rattle.fills.specs.declared.on_row.OnRow.{OnRow}
use Rattle.fills.specs.Calls.{Stored, empty_row, turn_stored, turn_with, open_stored, open_with}
use Rattle.fills.specs.contracts.open as fills_open
use Rattle.fills.specs.contracts.turn as fills_turn
use Rattle.fills.specs.contracts.on_row.open_on_row as fills_open_on_row
use Rattle.fills.specs.contracts.on_row.turn_on_row as fills_turn_on_row
use Rattle.fills.proofs.turn_fills.Reads as fills_turn_fills
use Rattle.session.specs.Sound.{Sound}
use Rattle.replay.proofs.events.event.Reads as replay_event
use Rattle.replay.proofs.stepping.step.Reads as replay_step
use Rattle.allocation.specs.declared.reach.Edge.{Edge}
use Rattle.allocation.specs.Edge.{EdgeAt}
use Rattle.allocation.specs.EdgeLaws.{edge_one}
use Rattle.allocation.proofs.reach.edge_of.Reads as allocation_edge_of
use Rattle.allocation.proofs.reach.in_line.Reads as allocation_in_line
use Rattle.book.proofs.Book.record.Reads as book_record
use Rattle.book.proofs.Book.rest.Reads as book_rest
use Rattle.book.proofs.Book.find.Reads as book_find
use Rattle.book.proofs.Book.free.Reads as book_free
use Rattle.book.proofs.trading.remove.Reads as book_remove
use Rattle.book.proofs.Book.trade.Reads as book_trade
use Rattle.opening.proofs.matching.open_at.Reads as opening_open_at
use Rattle.lanes.proofs.ring.put_all.Reads as lanes_put_all
use Rattle.session.proofs.Session.settings.Reads as session_settings
use Rattle.session.proofs.Session.submit.Reads as session_submit
use Rattle.units.proofs.grid.Grid.of.Reads as units_of
use Rattle.units.proofs.grid.Grid.lowest.Reads as units_lowest
use Rattle.units.proofs.grid.Grid.step.Reads as units_step
use Rattle.units.proofs.grid.Grid.on.Reads as units_on
use Rattle.units.proofs.grid.Grid.at_or_below.Reads as units_at_or_below
use Rattle.units.proofs.grid.Grid.at_or_above.Reads as units_at_or_above
use Rattle.numeral.proofs.read.Reads as number_read
use Rattle.numeral.proofs.Refusal.number.Reads as number_refusal
use Rattle.numeral.proofs.writing.length.Reads as number_length
use Rattle.numeral.proofs.writing.write.Reads as number_write
use Rattle.lines.proofs.line.set_line.Reads as lines_set_line
use Rattle.lines.proofs.line.away_line.Reads as lines_away_line
use Rattle.lines.proofs.line.submit_line.Reads as lines_submit_line
use Rattle.lines.proofs.line.turn_line.Reads as lines_turn_line
use Rattle.lines.proofs.line.refused_line.Reads as lines_refused_line
use Rattle.lines.proofs.line.open_line.Reads as lines_open_line
use Rattle.lines.proofs.line.fill_line.Reads as lines_fill_line
use Rattle.lines.proofs.line.gone_line.Reads as lines_gone_line
use Rattle.lines.proofs.line.tape_line.Reads as lines_tape_line
use Rattle.lines.proofs.line.end_line.Reads as lines_end_line
use Rattle.lines.proofs.line.tally_line.Reads as lines_tally_line
use Rattle.lines.proofs.gone.gone.Reads as lines_gone
use Rattle.lines.proofs.gone.next_gone.Reads as lines_next_gone
use Rattle.tape.proofs.events.event.Reads as tape_event
use Rattle.tape.proofs.one.one_event.Reads as tape_one_event
use Rattle.tape.proofs.numbers.numbers_of.Reads as tape_numbers_of
use Rattle.tape.proofs.numbers.entries_in.Reads as tape_entries_in
use Rattle.writer.proofs.write.Reads as writer_write
use Rattle.writer.proofs.rewriting.rewrite.Reads as writer_rewrite
use Rattle.figures.proofs.Place.new.Reads as figures_new
use Rattle.figures.proofs.inscribe.Reads as figures_inscribe
use Rattle.sheet.proofs.Place.new.Reads as sheet_new
use Rattle.sheet.proofs.step.Reads as sheet_step
use Rattle.sheet.proofs.finish.Reads as sheet_finish
use Rattle.rows.proofs.row.key.Reads as rows_key
use Rattle.rows.proofs.row.open_size.Reads as rows_open_size
use Rattle.rows.proofs.row.reachable.Reads as rows_reachable
use Rattle.rows.proofs.passes.highest_buy.Reads as rows_highest_buy
use Rattle.rows.proofs.passes.lowest_sell.Reads as rows_lowest_sell
use Rattle.rows.proofs.passes.resting_within.Reads as rows_resting_within
use Rattle.rows.proofs.passes.resting_rows.Reads as rows_resting_rows
use Rattle.rows.proofs.passes.order_row.Reads as rows_order_row
use Rattle.rows.proofs.passes.free_row.Reads as rows_free_row
use Rattle.levels.proofs.row.precedes.Reads as levels_precedes
use Rattle.levels.proofs.row.whole.Reads as levels_whole
use Rattle.levels.proofs.row.tradable_at.Reads as levels_tradable_at
use Rattle.marks.proofs.insert.Reads as marks_insert
use Rattle.allocation.proofs.shares.by_time.Reads as allocation_by_time
use Rattle.allocation.proofs.shares.sharing.Reads as allocation_sharing
use Rattle.allocation.proofs.shares.in_proportion.Reads as allocation_in_proportion
use Rattle.book.proofs.Book.best_bid.Reads as book_best_bid
use Rattle.book.proofs.Book.best_offer.Reads as book_best_offer
use Rattle.book.proofs.Book.crosses.Reads as book_crosses
use Rattle.book.proofs.Book.shares.Reads as book_shares
use Rattle.tally.proofs.added.Reads as tally_added
use Rattle.tally.proofs.none.Reads as tally_none
use Rattle.tally.proofs.count.Reads as tally_count
use Rattle.tally.proofs.turns_in_all.Reads as tally_turns_in_all
use Rattle.entry.proofs.words.wide.Reads as entry_wide
use Rattle.entry.proofs.words.plus.Reads as entry_plus
use Rattle.entry.proofs.form.malformed.Reads as entry_malformed
use Rattle.entry.proofs.ranges.in_range.Reads as entry_in_range
use Rattle.entry.proofs.ranges.terms_of.Reads as entry_terms_of
use Rattle.entry.proofs.best_quotes.quotes_of.Reads as entry_quotes_of
use Rattle.checks.proofs.turn_down.as_judged.Reads as checks_as_judged
use Rattle.checks.proofs.turn_down.turn_down.Reads as checks_turn_down
use Rattle.judge.proofs.disposition.disposition.Reads as judge_disposition
use Rattle.judge.proofs.verdict.judge.Reads as judge_judge
use Rattle.lanes.proofs.Lanes.new.Reads as lanes_new
use Rattle.lanes.proofs.bulk.well_counted.Reads as lanes_well_counted
use Rattle.lanes.proofs.bulk.some_malformed.Reads as lanes_some_malformed
use Rattle.lanes.proofs.bulk.too_many.Reads as lanes_too_many
use Rattle.lanes.proofs.ring.given.Reads as lanes_given
use Rattle.lanes.proofs.ring.entry_at.Reads as lanes_entry_at
use Rattle.lanes.proofs.ring.head.Reads as lanes_head
use Rattle.lanes.proofs.ring.joined.Reads as lanes_joined
use Rattle.lanes.proofs.ring.taken.Reads as Lanes-Taken
use Rattle.lanes.proofs.rotation.served.Reads as lanes_served
use Rattle.price.proofs.choose.Reads as price_choose
use Rattle.dealing.proofs.credit.credit.Reads as dealing_credit
use Rattle.dealing.proofs.deal.deal.Reads as dealing_deal
use Rattle.dealing.proofs.open.open_book.Reads as dealing_open_book
use Rattle.dealing.proofs.open.which_way.Reads as dealing_which_way
use Rattle.session.proofs.Session.new.Reads as session_new
use Rattle.session.proofs.Session.turn_core.Reads as session_turn
use Rattle.session.proofs.Session.open_core.Reads as session_open
use Rattle.session.proofs.Session.away.Reads as session_away
use Rattle.session.proofs.Session.tally_of.Reads as session_tally_of
use Rattle.replay.proofs.tallying.tally_lines.Reads as replay_tally_lines
use Rattle.window.proofs.is_short.Reads as window_is_short
use Rattle.window.proofs.program.tell.Reads as window_tell
use Rattle.window.proofs.program.tell_byte.Reads as window_tell_byte
use Rattle.window.proofs.program.status_after.Reads as window_status_after
use Rattle.window.proofs.program.status_of.Reads as window_status_of
use Rattle.window.proofs.program.tell_line.Reads as window_tell_line
use Rattle.playing.proofs.play.Reads as playing_play

-- the result is the same
abbrev pub OneResult : {K A Z E : Type 0} → (K → A → Z → E → Type 0) → Type 0
OneResult {K} {A} {Z} {E} P = (κs : K) (a : A) (z z' : Z) (e e' : E) → P κs a z e → P κs a z' e' → z ≡ z'

-- and so is what the lent columns are left with
abbrev pub OneOutcome : {K A Z E : Type 0} → (K → A → Z → E → Type 0) → (E → List (List ℕ)) → Type 0
OneOutcome {K} {A} {Z} {E} P lent = (κs : K) (a : A) (z z' : Z) (e e' : E) → P κs a z e → P κs a z' e' → (z ≡ z') × (lent e ≡ lent e')

-- and so is the session that is lent
abbrev pub OneCall : {K A Z E : Type 0} → (K → A → Z → E → Type 0) → (E → Session) → (E → List (List ℕ)) → Type 0
OneCall {K} {A} {Z} {E} P left lent =
    (κs : K) (a : A) (z z' : Z) (e e' : E) → P κs a z e → P κs a z' e' → (z ≡ z') × (left e ≡ left e') × (lent e ≡ lent e')

-- two things equal to the same are equal
same : {A : Type 0} {a b c : A} → a ≡ c → b ≡ c → a ≡ b
same p q = p ∙ sym q

-- what the language's tests and the library's methods promise of a result, where no function of the repository stands
-- for them: two results that meet it are equal
abbrev pub OneOf : {A : Type 0} → A → Type 0
OneOf {A} v = (r s : A) → r ≡ v → s ≡ v → r ≡ s

-- ---- memory lent

-- a list of numbers lent to be changed, a book, and a session that is lent first; and of parameters in a row what the
-- first is left with
abbrev Lent : Type 0
Lent = MutBor (List ℕ)

abbrev LentBook : Type 0
LentBook = MutBor Columns

abbrev pub left : {X : Type 0} → MutBor Session × X → Session
left e = e.0.now

abbrev pub first : {X : Type 0} → Lent × X → List (List ℕ)
first e = e.0.now ∷ []

-- the columns of a book, before others; and the book that is lent to be changed
abbrev pub columns : Book → List (List ℕ) → List (List ℕ)
columns b more = b.sides ∷ b.prices ∷ b.sizes ∷ b.owners ∷ b.numbers ∷ more

abbrev pub book_at : {X : Type 0} → LentBook × X → Book
book_at e = book_in e.0.now

-- the book of a market, its lanes' entries and the output, in a row
abbrev pub market_lent : {X : Type 0} → LentBook × (Lent × (Lent × X)) → List (List ℕ)
market_lent e = columns (book_at e) (e.1.0.now ∷ e.1.1.0.now ∷ [])

-- one list is left as it is told
alone : {l l' k : List ℕ} → l ≡ k → l' ≡ k → ◌≡◌ {A = List (List ℕ)} (l ∷ []) (l' ∷ [])
alone p q = ap (λ (l : List ℕ). l ∷ []) (same p q)

-- and nothing is answered
stored : {l l' k : List ℕ} → l ≡ k → l' ≡ k → (tt {0} ≡ tt) × (◌≡◌ {A = List (List ℕ)} (l ∷ []) (l' ∷ []))
stored p q = (refl, alone p q)

-- two layings of the same bytes leave the same, and end at the same place
laid : {was bytes out out' : List ℕ} {start most r r' : ℕ} → Laid was start bytes most out r → Laid was start bytes most out' r'
    → (r ≡ r') × (◌≡◌ {A = List (List ℕ)} (out ∷ []) (out' ∷ []))
laid p q = (same p.end q.end, alone p.stored q.stored)

-- two matches told alike: the book, the records, what each row traded, and the answer
matched : {Z : Type 0} {b b' c : Book} {w w' u t t' v : List ℕ} {z z' y : Z} → (b ≡ c) × ((w ≡ u) × ((t ≡ v) × (z ≡ y))) → (b' ≡ c) × ((w' ≡ u) × ((t' ≡ v) × (z' ≡ y)))
    → (z ≡ z') × (◌≡◌ {A = List (List ℕ)} (columns b (t ∷ w ∷ [])) (columns b' (t' ∷ w' ∷ [])))
matched p q =
    let book = same p.0 q.0 in
    let records = same p.1.0 q.1.0 in
    let traded = same p.1.1.0 q.1.1.0 in
    (same p.1.1.1 q.1.1.1, λ i. columns (book i) (traded i ∷ records i ∷ []))

-- what a call left of the session, and what it answered, by the numbers that it answered
called_one : {s s' : Session} {z z' : Result Unit Refusal} {b b' : Book} {l l' : List ℕ} → called s z b l ≡ called s' z' b' l' → (z ≡ z') × (s ≡ s')
called_one {z = z} {z' = z'} e = (code_one z z' (ap (λ (c : Called). c.code) e), ap (λ (c : Called). c.market.session) e)

turned_one : {s s' : Session} {z z' : Result Taken Refusal} {b b' : Book} {l l' r r' : List ℕ} → turn_called s z b l r ≡ turn_called s' z' b' l' r' → (z ≡ z') × (s ≡ s')
turned_one {z = z} {z' = z'} e = (turn_answer_one z z' (ap (λ (d : TurnDone). d.answer) e), ap (λ (d : TurnDone). d.market.session) e)

opened_one : {s s' : Session} {z z' : Result Opening Refusal} {b b' : Book} {l l' r r' : List ℕ} → open_called s z b l r ≡ open_called s' z' b' l' r' → (z ≡ z') × (s ≡ s')
opened_one {z = z} {z' = z'} e = (open_answer_one z z' (ap (λ (d : OpenDone). d.answer) e), ap (λ (d : OpenDone). d.market.session) e)

abbrev no_book : Book
no_book = empty_book 0

-- ---- units

pub one_units_both : (a b : Bool) → OneOf (a and b)
one_units_both a b r s = same

pub one_units_either : (a b : Bool) → OneOf (a or b)
one_units_either a b r s = same

pub one_units_is_not : (a : Bool) → OneOf (is_not a)
one_units_is_not a r s = same

pub one_units_first : (test : Bool) (number rest : ℕ) → OneOf (pick test number rest)
one_units_first test number rest r s = same

pub one_units_of : OneResult units_of.Post
one_units_of κs a z z' e e' = same

pub one_units_lowest : OneResult units_lowest.Post
one_units_lowest κs a z z' e e' = same

pub one_units_step : OneResult units_step.Post
one_units_step κs a z z' e e' = same

pub one_units_on : OneResult units_on.Post
one_units_on κs a z z' e e' = same

pub one_units_at_or_below : OneResult units_at_or_below.Post
one_units_at_or_below κs a z z' e e' = same

pub one_units_at_or_above : OneResult units_at_or_above.Post
one_units_at_or_above κs a z z' e e' = same

-- ---- number

pub one_number_read : OneResult number_read.Post
one_number_read κs a z z' e e' = same

pub one_number_refusal : OneResult number_refusal.Post
one_number_refusal κs a z z' e e' = same

pub one_number_length : OneResult number_length.Post
one_number_length κs a z z' e e' = same

pub one_number_write : OneOutcome number_write.Post (λ e. first e.1)
one_number_write κs a z z' e e' p q = (same p.1 q.1, alone p.0 q.0)

-- ---- tape

-- the numbers of a bulk
pub one_tape_event : OneOutcome tape_event.Post (λ e. first e.1.1)
one_tape_event κs a z z' e e' p q = (same p.0 q.0, alone p.1 q.1)

pub one_tape_one_event : OneResult tape_one_event.Post
one_tape_one_event κs a z z' e e' = same

-- the numbers of an event
pub one_tape_numbers_of : OneOutcome tape_numbers_of.Post (λ e. first e.1.1)
one_tape_numbers_of κs a z z' e e' p q = (same p.1 q.1, alone p.0 q.0)

pub one_tape_entries_in : OneResult tape_entries_in.Post
one_tape_entries_in κs a z z' e e' = same

-- ---- writer

-- the bytes of an event
pub one_writer_write : OneOutcome writer_write.Post (λ e. first e.1)
one_writer_write κs a z z' e e' p q = (same p.0 q.0, alone p.1.1 q.1.1)

pub one_writer_rewrite : OneOutcome writer_rewrite.Post (λ e. first e.1.1)
one_writer_rewrite κs a z z' e e' p q = (same p.0 q.0, alone p.1 q.1)

-- ---- figures

pub one_figures_new : OneResult figures_new.Post
one_figures_new κs a z z' e e' = same

-- the numbers of a line, and the output
pub one_figures_inscribe : OneOutcome figures_inscribe.Post (λ e. e.1.1.1.1.0.now ∷ first e.1.1.1.1.1)
one_figures_inscribe κs a z z' e e' p q =
    let place = same p.place q.place in
    let from = same p.from q.from in
    let at = same p.end q.end in
    let next = nexts_differ z.next z'.next (same p.next q.next) in
    let numbers = same p.numbers_are q.numbers_are in
    let out = same p.laid q.laid in
    (λ i. record { place = place i; from = from i; at = at i; next = next i }, λ i. numbers i ∷ out i ∷ [])

-- ---- sheet

pub one_sheet_new : OneResult sheet_new.Post
one_sheet_new κs a z z' e e' = same

-- the bytes of a line that have come
pub one_sheet_step : OneOutcome sheet_step.Post (λ e. first e.1.1.1)
one_sheet_step κs a z z' e e' p q = (steps_differ z z' (same p.0 q.0), alone p.1 q.1)

pub one_sheet_finish : OneResult sheet_finish.Post
one_sheet_finish κs a z z' e e' p q = finishes_differ z z' (same p q)

-- ---- lines

pub one_lines_set_line : OneOutcome lines_set_line.Post first
one_lines_set_line κs a z z' e e' = laid

pub one_lines_away_line : OneOutcome lines_away_line.Post first
one_lines_away_line κs a z z' e e' = laid

pub one_lines_submit_line : OneOutcome lines_submit_line.Post first
one_lines_submit_line κs a z z' e e' = laid

pub one_lines_turn_line : OneOutcome lines_turn_line.Post first
one_lines_turn_line κs a z z' e e' = laid

pub one_lines_refused_line : OneOutcome lines_refused_line.Post first
one_lines_refused_line κs a z z' e e' = laid

pub one_lines_open_line : OneOutcome lines_open_line.Post first
one_lines_open_line κs a z z' e e' = laid

pub one_lines_fill_line : OneOutcome lines_fill_line.Post first
one_lines_fill_line κs a z z' e e' = laid

pub one_lines_gone_line : OneOutcome lines_gone_line.Post first
one_lines_gone_line κs a z z' e e' = laid

pub one_lines_tape_line : OneOutcome lines_tape_line.Post first
one_lines_tape_line κs a z z' e e' = laid

pub one_lines_end_line : OneOutcome lines_end_line.Post first
one_lines_end_line κs a z z' e e' = laid

pub one_lines_tally_line : OneOutcome lines_tally_line.Post first
one_lines_tally_line κs a z z' e e' = laid

-- the column of orders gone
pub one_lines_gone : OneOutcome lines_gone.Post (λ e. first e.1.1.1.1.1)
one_lines_gone κs a z z' e e' = stored

pub one_lines_next_gone : OneResult lines_next_gone.Post
one_lines_next_gone κs a z z' e e' = same

-- ---- rows

pub one_rows_lesser : (a b : ℕ) → OneOf (min a b)
one_rows_lesser a b r s = same

pub one_rows_lesser_wide : (a b : ℕ) → OneOf (min a b)
one_rows_lesser_wide a b r s = same

pub one_rows_greater : (a b : ℕ) → OneOf (max a b)
one_rows_greater a b r s = same

pub one_rows_beyond : (a b : ℕ) → OneOf (a - b)
one_rows_beyond a b r s = same

pub one_rows_beyond_wide : (a b : ℕ) → OneOf (a - b)
one_rows_beyond_wide a b r s = same

pub one_rows_wide : (x : ℕ) → OneOf x
one_rows_wide x r s = same

pub one_rows_one : (test : Bool) → OneOf (keep test 1)
one_rows_one test r s = same

pub one_rows_key : OneResult rows_key.Post
one_rows_key κs a z z' e e' = same

pub one_rows_open_size : OneResult rows_open_size.Post
one_rows_open_size κs a z z' e e' p q = ap contracts (same p q)

pub one_rows_reachable : OneResult rows_reachable.Post
one_rows_reachable κs a z z' e e' = same

pub one_rows_highest_buy : OneResult rows_highest_buy.Post
one_rows_highest_buy κs a z z' e e' p q = ap cents (same p q)

pub one_rows_lowest_sell : OneResult rows_lowest_sell.Post
one_rows_lowest_sell κs a z z' e e' p q = ap cents (same p q)

pub one_rows_resting_within : OneResult rows_resting_within.Post
one_rows_resting_within κs a z z' e e' p q = ap total (same p q)

pub one_rows_resting_rows : OneResult rows_resting_rows.Post
one_rows_resting_rows κs a z z' e e' = same

pub one_rows_order_row : OneResult rows_order_row.Post
one_rows_order_row κs a z z' e e' = same

pub one_rows_free_row : OneResult rows_free_row.Post
one_rows_free_row κs a z z' e e' = same

-- ---- levels

pub one_levels_precedes : OneResult levels_precedes.Post
one_levels_precedes κs a z z' e e' = same

pub one_levels_whole : OneResult levels_whole.Post
one_levels_whole κs a z z' e e' p q = ap contracts (same p q)

pub one_levels_tradable_at : OneResult levels_tradable_at.Post
one_levels_tradable_at κs a z z' e e' p q = ap contracts (same p q)

-- ---- marks

pub one_marks_insert : OneOutcome marks_insert.Post first
one_marks_insert κs a z z' e e' = stored

-- ---- allocation

-- an edge by its key and what is left there
edge : {n top q : ℕ} {key size : ℕ → ℕ} {z z' : Edge} → EdgeAt n top key size q z.key z.left.0 → EdgeAt n top key size q z'.key z'.left.0 → z ≡ z'
edge p q = let (key, left) = edge_one _ _ _ _ _ _ _ _ _ p q in λ i. record { key = key i; left = contracts (left i) }

pub one_allocation_edge_of : OneResult allocation_edge_of.Post
one_allocation_edge_of κs a z z' e e' = edge

pub one_allocation_in_line : OneResult allocation_in_line.Post
one_allocation_in_line κs a z z' e e' = edge

pub one_allocation_by_time : OneResult allocation_by_time.Post
one_allocation_by_time κs a z z' e e' = same

pub one_allocation_sharing : OneResult allocation_sharing.Post
one_allocation_sharing κs a z z' e e' = same

pub one_allocation_in_proportion : OneResult allocation_in_proportion.Post
one_allocation_in_proportion κs a z z' e e' = same

-- ---- book

pub one_book_new : (κs : _) (a : _) (z z' : Columns) (e e' : _) → book_new.Post κs a z e → book_new.Post κs a z' e' → book_in z ≡ book_in z'
one_book_new κs a z z' e e' = same

pub one_book_best_bid : OneResult book_best_bid.Post
one_book_best_bid κs a z z' e e' = same

pub one_book_best_offer : OneResult book_best_offer.Post
one_book_best_offer κs a z z' e e' = same

pub one_book_crosses : OneResult book_crosses.Post
one_book_crosses κs a z z' e e' = same

pub one_book_find : OneResult book_find.Post
one_book_find κs a z z' e e' = same

pub one_book_shares : OneResult book_shares.Post
one_book_shares κs a z z' e e' = same

-- the records lent, and how many are written
pub one_book_record : OneOutcome book_record.Post (λ e. first e.1.1.1)
one_book_record κs a z z' e e' p q = (same p.1 q.1, alone p.0 q.0)

pub one_book_rest : OneOutcome book_rest.Post (λ e. columns (book_at e) [])
one_book_rest κs a z z' e e' p q = (refl, ap (λ (b : Book). columns b []) (same p q))

pub one_book_free : OneOutcome book_free.Post (λ e. columns (book_at e) [])
one_book_free κs a z z' e e' p q = (refl, ap (λ (b : Book). columns b []) (same p q))

pub one_book_remove : OneOutcome book_remove.Post (λ e. first e.1)
one_book_remove κs a z z' e e' = stored

pub one_book_trade : OneOutcome book_trade.Post (λ e. columns (book_at e) (e.1.1.1.1.1.0.now ∷ first e.1.1.1.1.1.1))
one_book_trade κs a z z' e e' = matched

-- ---- opening

pub one_opening_open_at : OneOutcome opening_open_at.Post (λ e. columns (book_at e) (e.1.1.0.now ∷ first e.1.1.1))
one_opening_open_at κs a z z' e e' = matched

-- ---- tally

pub one_tally_added : OneResult tally_added.Post
one_tally_added κs a z z' e e' = same

pub one_tally_none : OneResult tally_none.Post
one_tally_none κs a z z' e e' = same

pub one_tally_count : OneResult tally_count.Post
one_tally_count κs a z z' e e' = same

pub one_tally_turns_in_all : OneResult tally_turns_in_all.Post
one_tally_turns_in_all κs a z z' e e' = same

-- what is lent to `add` is a tally and no list of numbers, so its promise is read from its contract's clauses: what it
-- says is that the tally is left as `AddedTo` has it
abbrev pub AddedTo : Tally → ℕ → ℕ → ℕ → Tally → Type 0
AddedTo entry turns bought sold exit = exit ≡ plus entry turns bought sold

pub tally_add_promise : {M : Type 1} {𝓤 : Ura.Ura M} (𝓛 : Logic 𝓤) (mem : Memory.Memory → Logic.SProp 𝓤) (run : Routine.Routine → Monad.Fun 𝓤)
    (κs : Lifetimes.Lfts 1) (a : World.ArgsD tally_add.signature κs) (z : World.ResD tally_add.signature κs) (e : Clauses.AtExit tally_add.ended κs)
    → (tally_add.clauses 𝓛 mem run κs a).ensures tt z e ≡ (Notation.connectives 𝓤).⌜◌⌝ (AddedTo a.0.now a.1.0 a.1.1.0 a.1.1.1.0 e.0.now)
tally_add_promise 𝓛 mem run κs a z e = refl

pub one_tally_add : (entry : Tally) (turns bought sold : ℕ) (exit exit' : Tally) → AddedTo entry turns bought sold exit → AddedTo entry turns bought sold exit' → exit ≡ exit'
one_tally_add entry turns bought sold exit exit' = same

-- ---- entry

pub one_entry_wide : OneResult entry_wide.Post
one_entry_wide κs a z z' e e' = same

pub one_entry_plus : OneResult entry_plus.Post
one_entry_plus κs a z z' e e' = same

pub one_entry_less : (a b : ℕ) → OneOf (a - b)
one_entry_less a b r s = same

pub one_entry_malformed : OneResult entry_malformed.Post
one_entry_malformed κs a z z' e e' = same

pub one_entry_in_range : OneResult entry_in_range.Post
one_entry_in_range κs a z z' e e' = same

pub one_entry_terms_of : OneResult entry_terms_of.Post
one_entry_terms_of κs a z z' e e' = same

pub one_entry_quotes_of : OneResult entry_quotes_of.Post
one_entry_quotes_of κs a z z' e e' = same

-- ---- checks

pub one_checks_as_judged : OneResult checks_as_judged.Post
one_checks_as_judged κs a z z' e e' = same

pub one_checks_turn_down : OneResult checks_turn_down.Post
one_checks_turn_down κs a z z' e e' p q = turned_down_one z z' (same p q)

-- ---- judge

pub one_judge_disposition : OneResult judge_disposition.Post
one_judge_disposition κs a z z' e e' p q = disposition_one z z' (same p q)

pub one_judge_judge : OneResult judge_judge.Post
one_judge_judge κs a z z' e e' p q = judged_one z z' (same p q)

-- ---- lanes

pub one_lanes_new : OneResult lanes_new.Post
one_lanes_new κs a z z' e e' = same

pub one_lanes_given : OneResult lanes_given.Post
one_lanes_given κs a z z' e e' = same

pub one_lanes_entry_at : OneResult lanes_entry_at.Post
one_lanes_entry_at κs a z z' e e' = same

pub one_lanes_head : OneResult lanes_head.Post
one_lanes_head κs a z z' e e' = same

pub one_lanes_joined : OneResult lanes_joined.Post
one_lanes_joined κs a z z' e e' = same

pub one_lanes_taken : OneResult Lanes-Taken.Post
one_lanes_taken κs a z z' e e' = same

pub one_lanes_served : OneResult lanes_served.Post
one_lanes_served κs a z z' e e' = same

-- the lanes' entries
pub one_lanes_put_all : OneOutcome lanes_put_all.Post (λ e. first e.1)
one_lanes_put_all κs a z z' e e' = stored

pub one_lanes_well_counted : OneResult lanes_well_counted.Post
one_lanes_well_counted κs a z z' e e' = same

pub one_lanes_some_malformed : OneResult lanes_some_malformed.Post
one_lanes_some_malformed κs a z z' e e' = same

pub one_lanes_too_many : OneResult lanes_too_many.Post
one_lanes_too_many κs a z z' e e' = same

-- ---- price

pub one_price_choose : OneResult price_choose.Post
one_price_choose κs a z z' e e' = same

-- ---- dealing

pub one_dealing_credit : OneResult dealing_credit.Post
one_dealing_credit κs a z z' e e' = same

-- the book and the fill records
pub one_dealing_deal : OneOutcome dealing_deal.Post (λ e. columns (book_at e.1.1.1.1.1) (first e.1.1.1.1.1.1))
one_dealing_deal κs a z z' e e' p q =
    let one = same p q in
    let came = came_one z.came z'.came (ap (λ (d : Made). d.came) one) in
    (λ i. record { tallies = (one i).tallies; came = came i }, ap (λ (d : Made). columns d.book (d.records ∷ [])) one)

pub one_dealing_which_way : OneResult dealing_which_way.Post
one_dealing_which_way κs a z z' e e' p q = way_one z z' (same p q)

-- the book and the fill records
pub one_dealing_open_book : OneOutcome dealing_open_book.Post (λ e. columns (book_at e.1.1) (first e.1.1.1))
one_dealing_open_book κs a z z' e e' p q =
    (same p.1.1 q.1.1, λ i. columns (same p.0 q.0 i) (same p.1.0 q.1.0 i ∷ []))

-- ---- session

pub one_session_new : OneResult session_new.Post
one_session_new κs a z z' e e' p q = same p.0 q.0

pub one_session_away : OneCall session_away.Post left (λ e. [])
one_session_away κs a z z' e e' p q = let (answer, session) = called_one (same (p.0 no_book []) (q.0 no_book [])) in (answer, session, refl)

-- the columns of the book and the lanes' entries
pub one_session_settings : OneCall session_settings.Post left (λ e. columns (book_at e.1.1) (first e.1.1.1))
one_session_settings κs a z z' e e' p q =
    let one = same p.0 q.0 in
    let (answer, session) = called_one one in
    (answer, session, ap (λ (c : Called). columns c.market.book (c.market.entries ∷ [])) one)

pub one_session_submit : OneCall session_submit.Post left (λ e. first e.1.1.1.1)
one_session_submit κs a z z' e e' p q =
    let one = same (p.0 no_book) (q.0 no_book) in
    let (answer, session) = called_one one in
    (answer, session, ap (λ (c : Called). c.market.entries ∷ []) one)

-- the columns of the book and the fill records
pub one_session_turn : OneCall session_turn.Post left (λ e. columns (book_at e.1) (first e.1.1.1.1))
one_session_turn κs a z z' e e' p q =
    let one = same p.0 q.0 in
    let (answer, session) = turned_one one in
    (answer, session, ap (λ (d : TurnDone). columns d.market.book (d.records ∷ [])) one)

pub one_session_open : OneCall session_open.Post left (λ e. columns (book_at e.1) (first e.1.1.1))
one_session_open κs a z z' e e' p q =
    let one = same (p.0 []) (q.0 []) in
    let (answer, session) = opened_one one in
    (answer, session, ap (λ (d : OpenDone). columns d.market.book (d.records ∷ [])) one)

pub one_session_tally_of : OneResult session_tally_of.Post
one_session_tally_of κs a z z' e e' p q = tallied_one z z' (same p q)

-- ---- fills

pub one_fills_turn_fills : OneResult fills_turn_fills.Post
one_fills_turn_fills κs a z z' e e' = same

-- the calls with a row of fills are lent that row, or answer one, and it is no list of numbers, so their promises are
-- read from their contracts' clauses: what they say is that the market, the row and the answer are left as `TurnAs` and
-- `OpenAs` have them
abbrev pub TurnAs : Market → List Fill → Turned → Book → List ℕ → List Fill → Type 0
TurnAs m row r b entries left = turn_stored r b entries left ≡ turn_with m row

abbrev pub OpenAs : Session → Book → List Fill → Opened → Book → List Fill → Type 0
OpenAs s found row r b left = (entries : List ℕ) → open_stored r b entries left ≡ open_with (market_of s found entries) row

pub fills_turn_promise : {M : Type 1} {𝓤 : Ura.Ura M} (𝓛 : Logic 𝓤) (mem : Memory.Memory → Logic.SProp 𝓤) (run : Routine.Routine → Monad.Fun 𝓤)
    (κs : Lifetimes.Lfts 4) (a : World.ArgsD fills_turn.signature κs) (z : World.ResD fills_turn.signature κs) (e : Clauses.AtExit fills_turn.ended κs)
    → (fills_turn.clauses 𝓛 mem run κs a).ensures tt z e
    ≡ (Notation.connectives 𝓤).◌∗◌
    ((Notation.connectives 𝓤).⌜◌⌝ (
    TurnAs (market_of a.0.now (book_at a.1) a.1.1.0.now) a.1.1.1.0.now
    (record { session = e.0.now; answer = z }) (book_at e.1) a.1.1.0.now e.1.1.1.0.now))
    ((Notation.connectives 𝓤).◌∗◌
    ((Notation.connectives 𝓤).⌜◌⌝ (Sound (market_of e.0.now (book_at e.1) a.1.1.0.now)))
    ((Notation.connectives 𝓤).⌜◌⌝ (
    printed (turn_answer_of z)
    ≡ printed (turn_with (market_of a.0.now (book_at a.1) a.1.1.0.now) a.1.1.1.0.now).answer)))
fills_turn_promise 𝓛 mem run κs a z e = refl

pub fills_open_promise : {M : Type 1} {𝓤 : Ura.Ura M} (𝓛 : Logic 𝓤) (mem : Memory.Memory → Logic.SProp 𝓤) (run : Routine.Routine → Monad.Fun 𝓤)
    (κs : Lifetimes.Lfts 3) (a : World.ArgsD fills_open.signature κs) (z : World.ResD fills_open.signature κs) (e : Clauses.AtExit fills_open.ended κs)
    → (fills_open.clauses 𝓛 mem run κs a).ensures tt z e
    ≡ (Notation.connectives 𝓤).◌∗◌
    ((Notation.connectives 𝓤).⌜◌⌝ (OpenAs a.0.now (book_at a.1) a.1.1.0.now (record { session = e.0.now; answer = z }) (book_at e.1) e.1.1.0.now))
    ((Notation.connectives 𝓤).◌∗◌
    ((Notation.connectives 𝓤).⌜◌⌝ (
    (entries : List ℕ) → Sound (market_of a.0.now (book_at a.1) entries) → Sound (market_of e.0.now (book_at e.1) entries)))
    ((Notation.connectives 𝓤).⌜◌⌝ (
    (entries : List ℕ) → printed_open (open_answer_of z)
    ≡ printed_open (open_with (market_of a.0.now (book_at a.1) entries) a.1.1.0.now).answer)))
fills_open_promise 𝓛 mem run κs a z e = refl

-- with a row of the call's own, which is empty
pub fills_turn_on_row_promise : {M : Type 1} {𝓤 : Ura.Ura M} (𝓛 : Logic 𝓤) (mem : Memory.Memory → Logic.SProp 𝓤) (run : Routine.Routine → Monad.Fun 𝓤)
    (κs : Lifetimes.Lfts 3) (a : World.ArgsD fills_turn_on_row.signature κs) (z : World.ResD fills_turn_on_row.signature κs) (e : Clauses.AtExit fills_turn_on_row.ended κs)
    → (fills_turn_on_row.clauses 𝓛 mem run κs a).ensures tt z e
    ≡ (Notation.connectives 𝓤).◌∗◌
    ((Notation.connectives 𝓤).⌜◌⌝ (
    TurnAs (market_of a.0.now (book_at a.1) a.1.1.0.now) empty_row (record { session = e.0.now; answer = z.returned }) (book_at e.1) a.1.1.0.now z.row))
    ((Notation.connectives 𝓤).◌∗◌
    ((Notation.connectives 𝓤).⌜◌⌝ (Sound (market_of e.0.now (book_at e.1) a.1.1.0.now)))
    ((Notation.connectives 𝓤).⌜◌⌝ (
    printed (turn_answer_of z.returned)
    ≡ printed (turn_with (market_of a.0.now (book_at a.1) a.1.1.0.now) empty_row).answer)))
fills_turn_on_row_promise 𝓛 mem run κs a z e = refl

pub fills_open_on_row_promise : {M : Type 1} {𝓤 : Ura.Ura M} (𝓛 : Logic 𝓤) (mem : Memory.Memory → Logic.SProp 𝓤) (run : Routine.Routine → Monad.Fun 𝓤)
    (κs : Lifetimes.Lfts 2) (a : World.ArgsD fills_open_on_row.signature κs) (z : World.ResD fills_open_on_row.signature κs) (e : Clauses.AtExit fills_open_on_row.ended κs)
    → (fills_open_on_row.clauses 𝓛 mem run κs a).ensures tt z e
    ≡ (Notation.connectives 𝓤).◌∗◌
    ((Notation.connectives 𝓤).⌜◌⌝ (OpenAs a.0.now (book_at a.1) empty_row (record { session = e.0.now; answer = z.returned }) (book_at e.1) z.row))
    ((Notation.connectives 𝓤).◌∗◌
    ((Notation.connectives 𝓤).⌜◌⌝ (
    (entries : List ℕ) → Sound (market_of a.0.now (book_at a.1) entries) → Sound (market_of e.0.now (book_at e.1) entries)))
    ((Notation.connectives 𝓤).⌜◌⌝ (
    (entries : List ℕ) → printed_open (open_answer_of z.returned) ≡ printed_open (open_with (market_of a.0.now (book_at a.1) entries) empty_row).answer)))
fills_open_on_row_promise 𝓛 mem run κs a z e = refl

-- each of these equations is met by one outcome
one_stored : {A : Type 0} {d d' c : Stored A} → d ≡ c → d' ≡ c
    → (d.market.session ≡ d'.market.session) × (d.answer ≡ d'.answer) × (d.market.book ≡ d'.market.book) × (d.market.entries ≡ d'.market.entries) × (d.fills ≡ d'.fills)
one_stored p q = let one = same p q in (λ i. (one i).market.session, λ i. (one i).answer, λ i. (one i).market.book, λ i. (one i).market.entries, λ i. (one i).fills)

pub one_fills_turn :
    (m : Market) (row : List Fill) (r r' : Turned) (b b' : Book) (entries entries' : List ℕ) (left left' : List Fill) →
    TurnAs m row r b entries left → TurnAs m row r' b' entries' left' →
    (r ≡ r') × (b ≡ b') × (entries ≡ entries') × (left ≡ left')
one_fills_turn m row r r' b b' entries entries' left left' p q =
    let (session, told, book, waiting, fills) = one_stored p q in
    let answer = turn_answer_one r.answer r'.answer told in
    (λ i. record { session = session i; answer = answer i }, book, waiting, fills)

pub one_fills_open :
    (s : Session) (found : Book) (row : List Fill) (r r' : Opened) (b b' : Book) (left left' : List Fill) →
    OpenAs s found row r b left → OpenAs s found row r' b' left' →
    (r ≡ r') × (b ≡ b') × (left ≡ left')
one_fills_open s found row r r' b b' left left' p q =
    let (session, told, book, waiting, fills) = one_stored (p []) (q []) in
    let answer = open_answer_one r.answer r'.answer told in
    (λ i. record { session = session i; answer = answer i }, book, fills)

pub one_fills_turn_on_row :
    (m : Market) (s s' : Session) (r r' : OnRow (Result Taken Refusal)) (b b' : Book) (entries entries' : List ℕ) →
    TurnAs m empty_row (record { session = s; answer = r.returned }) b entries r.row →
    TurnAs m empty_row (record { session = s'; answer = r'.returned }) b' entries' r'.row →
    (s ≡ s') × (r ≡ r') × (b ≡ b') × (entries ≡ entries')
one_fills_turn_on_row m s s' r r' b b' entries entries' p q =
    let (turned, book, waiting, row) = one_fills_turn m empty_row (record { session = s; answer = r.returned }) (record { session = s'; answer = r'.returned }) b b' entries entries' r.row r'.row p q in
    (λ i. (turned i).session, λ i. record { returned = (turned i).answer; row = row i }, book, waiting)

pub one_fills_open_on_row :
    (s : Session) (found : Book) (t t' : Session) (r r' : OnRow (Result Opening Refusal)) (b b' : Book) →
    OpenAs s found empty_row (record { session = t; answer = r.returned }) b r.row →
    OpenAs s found empty_row (record { session = t'; answer = r'.returned }) b' r'.row →
    (t ≡ t') × (r ≡ r') × (b ≡ b')
one_fills_open_on_row s found t t' r r' b b' p q =
    let (opened, book, row) = one_fills_open s found empty_row (record { session = t; answer = r.returned }) (record { session = t'; answer = r'.returned }) b b' r.row r'.row p q in
    (λ i. (opened i).session, λ i. record { returned = (opened i).answer; row = row i }, book)

-- ---- replay

pub one_replay_event : OneCall replay_event.Post left (λ e. market_lent e.1.1.1)
one_replay_event κs a z z' e e' p q =
    let m = same p.market q.market in
    let at = same p.laid.end q.laid.end in
    let out = same p.laid.stored q.laid.stored in
    (at, λ i. (m i).session, λ i. columns (m i).book ((m i).entries ∷ out i ∷ []))

pub one_replay_step : OneCall replay_step.Post left (λ e. e.1.1.1.1.0.now ∷ market_lent e.1.1.1.1.1)
one_replay_step κs a z z' e e' p q =
    let m = same p.market q.market in
    let at = same p.laid.end q.laid.end in
    let from = same p.next q.next in
    let ending = status_one z.ending z'.ending (same p.status q.status) in
    let given = same p.given_is q.given_is in
    let out = same p.laid.stored q.laid.stored in
    (λ i. record { at = at i; from = from i; ending = ending i }, λ i. (m i).session, λ i. given i ∷ columns (m i).book ((m i).entries ∷ out i ∷ []))

pub one_replay_tally_lines : OneOutcome replay_tally_lines.Post (λ e. first e.1)
one_replay_tally_lines κs a z z' e e' = laid

-- ---- window

-- `refill`, `write_out`, `flush`, `opened` and the reads of a `Source` have none: what a read gives, whether a write is
-- taken and which file is opened come from the file
pub one_window_is_short : OneResult window_is_short.Post
one_window_is_short κs a z z' e e' = same

pub one_window_tell : OneResult window_tell.Post
one_window_tell κs a z z' e e' p q = refl

pub one_window_tell_byte : OneResult window_tell_byte.Post
one_window_tell_byte κs a z z' e e' p q = refl

pub one_window_status_after : OneResult window_status_after.Post
one_window_status_after κs a z z' e e' p q = bytes_differ z z' (same p q)

pub one_window_status_of : OneResult window_status_of.Post
one_window_status_of κs a z z' e e' p q = bytes_differ z z' (same p q)

pub one_window_tell_line : OneResult window_tell_line.Post
one_window_tell_line κs a z z' e e' p q = refl

-- ---- playing

pub one_playing_play : OneCall playing_play.Post left (λ e. e.1.1.1.1.1.0.now ∷ market_lent e.1.1.1.1.1.1)
one_playing_play κs a z z' e e' p q =
    let m = same p.market q.market in
    let at = same p.laid.end q.laid.end in
    let from = same p.from q.from in
    let next = next_one z.next z'.next (same p.next q.next) in
    let given = same p.given_is q.given_is in
    let out = same p.laid.stored q.laid.stored in
    (λ i. record { at = at i; from = from i; next = next i }, λ i. (m i).session, λ i. given i ∷ columns (m i).book ((m i).entries ∷ out i ∷ []))

-- ---- numbers of refusals and of what becomes of orders

pub one_entry_refusal_number : OneResult entry_refusal_number.Post
one_entry_refusal_number κs a z z' e e' = same

pub one_entry_turn_down_number : OneResult entry_turn_down_number.Post
one_entry_turn_down_number κs a z z' e e' = same

pub one_judge_disposition_number : OneResult judge_disposition_number.Post
one_judge_disposition_number κs a z z' e e' = same

pub one_tape_refusal_number : OneResult tape_refusal_number.Post
one_tape_refusal_number κs a z z' e e' = same

pub one_writer_refusal_number : OneResult writer_refusal_number.Post
one_writer_refusal_number κs a z z' e e' = same

pub one_sheet_refusal_number : OneResult sheet_refusal_number.Post
one_sheet_refusal_number κs a z z' e e' = same

pub one_window_status_byte : OneResult window_status_byte.Post
one_window_status_byte κs a z z' e e' = same
