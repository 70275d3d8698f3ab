-- Laws of the calls turn and open with a row of fills lent.
use Rattle.std.specs.Prelude.{Option, Some, None, ◌≡◌, refl, true, false, List, ℕ, ◌≤◌, ◌<◌, length, ltb}
use Rattle.std.proofs.Common.{sym, ap, ◌∙◌, arith, ltb-false, lt-ltb}
use Rattle.units.specs.Tests.{is_not, pick, picked}
use Rattle.rows.specs.Rows.{rows}
use Rattle.book.specs.Book.{crosses}
use Rattle.book.specs.declared.Fill.{Fill}
use Rattle.book.specs.Fills.{stored, Fits}
use Rattle.book.specs.RecordLaws.{records_most}
use Rattle.book.specs.Trading.{trade_records}
use Rattle.opening.specs.Opening.{opening_records}
use Rattle.price.specs.Price.{chosen}
use Rattle.units.specs.CaseLaws.{given_none, none_at}
use Rattle.entry.specs.declared.Entry.{Entry}
use Rattle.dealing.specs.Floor.{Floor}
use Rattle.dealing.specs.Deal.{rests, trades, dealt}
use Rattle.dealing.specs.DealLaws.{dealt_by}
use Rattle.lanes.specs.Rotation.{served}
use Rattle.session.specs.declared.Session.{Session}
use Rattle.session.specs.TurnAnswer as answer
use Rattle.session.specs.OpenAnswer as opened
use Rattle.session.specs.TurnLaws.{refused_6}
use Rattle.session.specs.Market.{Market, Done, floor_on}
use Rattle.session.specs.Turn.{turn_refusal, turn_of, turn_of_lane, turn_cases, once_taken, head_entry, answer_of, fills_in}
use Rattle.dealing.specs.Open.{way_refusal}
use Rattle.session.specs.Open.{choice_of, open_cases, open_refusal, open_quiet, open_at, open_of, fills_in as fills_opened}
use Rattle.fills.specs.Calls.{in_row, blank, turn_with, open_with}

-- a call wrote n fills or fewer
abbrev Few : {A : Type 0} → (A → ℕ) → ℕ → Done A → Type 0
Few count n d = count d.answer ≤ n

entry_few : (f : Floor) (t : ℕ) (e : Entry) (was : List ℕ) → fills_in (answer_of t (dealt f t was e).came) ≤ f.book.places
unfolding rests trades trade_records
entry_few f t e = dealt_by f t e (λ d. (was : List ℕ) → fills_in (answer_of t (d was).came) ≤ f.book.places)
    (λ code was. omega arith)
    (λ row was. omega arith)
    (λ o was. omega arith)
    (λ o bound was. records_most _)

lane_few : (was : List ℕ) (m : Market) (l : Option ℕ) → Few fills_in m.book.places (turn_of_lane m was l)
lane_few was m (Some t) = entry_few (floor_on (once_taken m t).session m.book) t (head_entry m t) was
lane_few was m None = omega arith

-- a turn that is not refused has 216 records lent
turn_lent : (s : Session) (lent : ℕ) → ltb 0 (turn_refusal s lent) ≡ false → rows ≤ lent
unfolding turn_refusal
turn_lent s lent h =
    let none_holds = (given_none 0 (turn_cases s lent) refl).0 (omega (arith, ltb-false 0 (turn_refusal s lent) h)) in
    ltb-false lent rows (none_at (turn_cases s lent) 2 none_holds)

-- a turn writes no more fills than the book has rows, and none that have no room
pub turn_few : (m : Market) (lent : ℕ) (was : List ℕ) → Few fills_in m.book.places (turn_of m lent was)
unfolding turn_of
turn_few m lent was = picked (Few fills_in m.book.places) _ _ _ (λ _. omega arith) (λ _. lane_few was m (served m.session.lanes))

pub turn_within : (m : Market) (lent : ℕ) (was : List ℕ) → m.book.places ≡ rows → Few fills_in lent (turn_of m lent was)
unfolding turn_of
turn_within m lent was e = picked (Few fills_in lent) _ _ _ (λ _. omega arith) (λ h. omega (arith, lane_few was m (served m.session.lanes), turn_lent m.session lent h))

-- so does an opening
open_lent : (m : Market) (lent : ℕ) → ltb 0 (open_refusal m lent) ≡ false → rows ≤ lent
unfolding way_refusal
open_lent m lent h =
    let none_holds = (given_none 0 (open_cases m lent) refl).0 (omega (arith, ltb-false 0 (open_refusal m lent) h)) in
    ltb-false lent rows (none_at (open_cases m lent) 2 none_holds)

met_few : (m : Market) (was : List ℕ)
    → Few fills_opened m.book.places (pick (crosses m.book) (open_at m was (chosen (choice_of m.session))) (open_quiet m was))
unfolding open_at open_quiet opening_records
met_few m was = picked (Few fills_opened m.book.places) _ _ _ (λ _. records_most _) (λ _. omega arith)

pub open_few : (m : Market) (lent : ℕ) (was : List ℕ) → Few fills_opened m.book.places (open_of m lent was)
unfolding open_of
open_few m lent was = picked (Few fills_opened m.book.places) _ _ _ (λ _. omega arith) (λ _. met_few m was)

pub open_within : (m : Market) (lent : ℕ) (was : List ℕ) → m.book.places ≡ rows → Few fills_opened lent (open_of m lent was)
unfolding open_of
open_within m lent was e = picked (Few fills_opened lent) _ _ _ (λ _. omega arith) (λ h. omega (arith, met_few m was, open_lent m lent h))

-- what a call tells of its flat records and their number tells all of the row: the fills fit, and stored they make the
-- call with that row
pub all_told : {A : Type 0} (count : A → ℕ) (row : List Fill) (done made : Done A) (n : ℕ) → Few count rows made → Few count (length row) made
    → done ≡ made → n ≡ count done.answer
    → Fits n row × (record { market = done.market; answer = done.answer; fills = stored done.records n row } ≡ in_row count made row)
all_told count row done made n few within e k =
    let counts : n ≡ count made.answer = k ∙ ap (λ d. count d.answer) e in (
      (omega (arith, counts, few), omega (arith, counts, within)),
      rw k (ap (λ d. in_row count d row) e),
    )

-- a call that wrote no fill leaves every fill as found
pub as_found : {A : Type 0} (count : A → ℕ) (d : Done A) (row : List Fill) → count d.answer ≡ 0 → (in_row count d row).fills ≡ row
as_found count d row h = ap (λ (n : ℕ). stored d.records n row) h

-- A refused turn and an entry turned down write none,
pub refused_as_found : (m : Market) (row : List Fill) (code : ℕ) → (turn_with m row).answer ≡ answer.Refused code → (turn_with m row).fills ≡ row
refused_as_found m row code h = as_found fills_in (turn_of m (length row) blank) row (ap fills_in h)

pub turned_down_as_found : (m : Market) (row : List Fill) (t code : ℕ) → (turn_with m row).answer ≡ answer.TurnedDown t code → (turn_with m row).fills ≡ row
turned_down_as_found m row t code h = as_found fills_in (turn_of m (length row) blank) row (ap fills_in h)

-- nor does a refused opening.
pub refused_open_as_found : (m : Market) (row : List Fill) (code : ℕ) → (open_with m row).answer ≡ opened.Refused code → (open_with m row).fills ≡ row
refused_open_as_found m row code h = as_found fills_opened (open_of m (length row) blank) row (ap fills_opened h)

-- 6 fewer than 216 fills lent, where a turn would be taken
pub turn_few_lent : (m : Market) (row : List Fill) (t : ℕ) → m.session.accepted ≡ true → served m.session.lanes ≡ Some t → length row < rows
    → (turn_with m row).answer ≡ answer.Refused 6
unfolding turn_of pick
turn_few_lent m row t set busy few =
    let six : turn_refusal m.session (length row) ≡ 6 = sym (refused_6 m.session (length row) set (sym busy) t refl few) in
    rw six

-- and where the series is not open
pub open_few_lent : (m : Market) (row : List Fill) → m.session.accepted ≡ true → m.session.opened ≡ false → length row < rows
    → (open_with m row).answer ≡ opened.Refused 6
unfolding open_of way_refusal pick is_not
open_few_lent m row set shut few = rw (set, shut, lt-ltb (length row) rows few)
