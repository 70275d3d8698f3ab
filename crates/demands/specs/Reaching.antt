-- Two more runs from a fresh market of 216 rows, beside the worked example: to the book of E11 before its opening, and
-- to nine lanes in which entries wait; with what is computed of them.
use Rattle.std.specs.Prelude.{◌≡◌, refl, true, false, List, [], ◌∷◌, ◌++◌, ℕ}
use Rattle.units.specs.Units.{cents}
use Rattle.units.specs.Tests.{◌and◌, ◌or◌, is_not, pick}
use Rattle.units.specs.Cases.{lower_if}
use Rattle.units.specs.Sums.{sum_to}
use Rattle.units.specs.Picked.{same, lower, precedes}
use Rattle.units.specs.Firsts.{first_to}
use Rattle.units.specs.Leasts.{least_to, greatest_to}
use Rattle.units.specs.Places.{table}
use Rattle.rows.specs.Rows.{rows, is_order, key_of, within, open_size, buy_price, sell_price, rests_for}
use Rattle.rows.specs.Passes.{highest_buy, lowest_sell, resting_within, resting_rows, free_row}
use Rattle.book.specs.Book.{Book, side_at, price_at, size_at, best_offer, crosses, rested}
use Rattle.book.specs.Allocation.{class_of, before, earlier, left, fill}
use Rattle.book.specs.Lookup.{found_by, found}
use Rattle.book.specs.Records.{sort_key, sooner_than, pos, of_traded, records}
use Rattle.opening.specs.Opening.{volume, bought, sold, matched, after_fills, buy_goes, sell_goes, after_opening, opening_records}
use Rattle.tally.specs.Tallies.{added_from}
use Rattle.entry.specs.Numbers.{one_or_two, from1to}
use Rattle.entry.specs.Settings.{series_in_range, protections_in_range, prints_in_range, in_range}
use Rattle.entry.specs.Entry.{is_cancel, priced, new_order, cancelling, malformed}
use Rattle.entry.specs.Quotes.{lower_offer, quotes_of}
use Rattle.checks.specs.TurnDown.{not_yet, off_grid, at_strike, no_offer, unbid, no_bid, converts, as_judged, too_wide, far_buy, far_sell, far_price, might_rest, no_room, used_up, turn_down}
use Rattle.judge.specs.Verdict.{verdict}
use Rattle.lanes.specs.Ring.{entry_at, slot, waiting_at, put, put_all, joined, taken}
use Rattle.lanes.specs.Rotation.{distance, served_by, served}
use Rattle.lanes.specs.Bulk.{well_counted, some_malformed}
use Rattle.price.specs.Price.{usable, midpoint, valid, first_valid, price_of}
use Rattle.dealing.specs.Deal.{quotes_on, rests, cancels, ordered, dealt}
use Rattle.dealing.specs.Open.{choice_in, way_refusal}
use Rattle.session.specs.TurnAnswer as turn_answer
use Rattle.session.specs.Market.{Market}
use Rattle.session.specs.Settings.{settings_of, too_high, away_refusal, away_of}
use Rattle.session.specs.Submit.{submit_refusal, submit_of}
use Rattle.session.specs.Turn.{turn_refusal, after_taking, turn_of}
use Rattle.session.specs.Open.{printed, open_at, open_of}
use Rattle.fills.specs.Calls.{blank}
use Rattle.demands.specs.Markets.{fresh, printing, worked}
use Rattle.demands.specs.Runs.{Call, settings, away, submit, turn, opening, after, answers, head_entry}
use Rattle.demands.specs.Values.{open_line}
use Rattle.demands.specs.Worked.{takes}
use Rattle.demands.specs.Demand3.{turns_taken, NoReset, WaitsBeforeEach}
use Rattle.demands.specs.Numbers.{numbers_since}

-- ---- before the opening of E11

-- 105 the last print; buys 110×5 and 105×5 of tenants 0 and 1, sells 104×4 and 108×3 of tenants 2 and 3; a turn for
-- each
abbrev pub ordering : List Call
ordering =
    settings (printing 105)
    ∷ submit 0 1 (1 ∷ 1 ∷ 1 ∷ 110 ∷ 5 ∷ 0 ∷ [])
    ∷ submit 1 1 (1 ∷ 1 ∷ 1 ∷ 105 ∷ 5 ∷ 0 ∷ [])
    ∷ submit 2 1 (1 ∷ 2 ∷ 1 ∷ 104 ∷ 4 ∷ 0 ∷ [])
    ∷ submit 3 1 (1 ∷ 2 ∷ 1 ∷ 108 ∷ 3 ∷ 0 ∷ [])
    ∷ takes
    ∷ takes
    ∷ takes
    ∷ takes
    ∷ []

abbrev pub unopened : Market
unopened = after fresh ordering

-- tenant 4's buy for now
abbrev pub for_now : List ℕ
for_now = 1 ∷ 1 ∷ 2 ∷ 110 ∷ 1 ∷ 0 ∷ []

-- it waits before the opening
abbrev pub early : Market
early = after unopened (submit 4 1 for_now ∷ [])

-- tenant 0's cancel of number 1 waits before the opening
abbrev pub leaving : Market
leaving = after unopened (submit 0 1 (3 ∷ 0 ∷ 0 ∷ 0 ∷ 0 ∷ 1 ∷ []) ∷ [])

-- tenant 4's cancel of a number waits before the opening: 1 is tenant 0's, and 5 the next one
abbrev pub asked : ℕ → List Call
asked n = ordering ++ (submit 4 1 (3 ∷ 0 ∷ 0 ∷ 0 ∷ 0 ∷ n ∷ []) ∷ [])

abbrev pub asking : ℕ → Market
asking n = after fresh (asked n)

abbrev pub once_open : Market
once_open = after unopened (opening rows blank ∷ [])

-- side, price and size of a row
abbrev pub row_in : Book → ℕ → List ℕ
row_in b i = side_at b i ∷ price_at b i ∷ size_at b i ∷ []

-- ---- nine lanes

-- a buy for now of a tenant, and one for the day behind it
abbrev two_buys : ℕ → Call
two_buys t = submit t 2 (1 ∷ 1 ∷ 2 ∷ 100 ∷ 1 ∷ 0 ∷ 1 ∷ 1 ∷ 1 ∷ 100 ∷ 1 ∷ 0 ∷ [])

abbrev pub filling : List Call
filling =
    settings worked
    ∷ two_buys 0
    ∷ two_buys 1
    ∷ two_buys 2
    ∷ two_buys 3
    ∷ two_buys 4
    ∷ two_buys 5
    ∷ two_buys 6
    ∷ two_buys 7
    ∷ two_buys 8
    ∷ []

abbrev pub busy : Market
busy = after fresh filling

-- ten turns, and between them an away, a turn that is refused since it is lent no fill records, and a submit
abbrev pub ten_turns : List Call
ten_turns =
    takes
    ∷ takes
    ∷ takes
    ∷ away (cents 90) (cents 120)
    ∷ takes
    ∷ takes
    ∷ takes
    ∷ turn 0 []
    ∷ takes
    ∷ takes
    ∷ submit 3 1 for_now
    ∷ takes
    ∷ takes
    ∷ []

pub record Computed : Type 0 where
  -- tenant 4's order is taken in, and turned down by 10
  pub taken_in : (submit_of unopened 4 1 for_now).code ≡ 0
  pub new_order_lem : is_cancel (head_entry early 4) ≡ false
  pub turned_down : (turn_of early rows blank).answer ≡ turn_answer.TurnedDown 4 10
  -- tenant 0's order is cancelled
  pub cancel : is_cancel (head_entry leaving 0) ≡ true
  pub cancels_first : (head_entry leaving 0).number ≡ 1
  pub cancelled : (turn_of leaving rows blank).answer ≡ turn_answer.Cancelled 0 1
  -- number 1 is given out, and number 5 never was: the four orders have the first four
  pub asks : (is_cancel (head_entry (asking 1) 4) ≡ true) × (is_cancel (head_entry (asking 5) 4) ≡ true)
  pub asks_for : ((head_entry (asking 1) 4).number ≡ 1) × ((head_entry (asking 5) 4).number ≡ 5)
  pub given_out : (turn_of (asking 1) rows blank).answer ≡ turn_answer.TurnedDown 4 18
  pub never_given : (turn_of (asking 5) rows blank).answer ≡ turn_answer.TurnedDown 4 22
  pub numbers : numbers_since fresh ordering ≡ 1 ∷ 2 ∷ 3 ∷ 4 ∷ []
  -- the book crosses, and opens at 105 with a volume of 4
  pub crossed : crosses unopened.book ≡ true
  pub opened : printed (open_of unopened rows blank).answer ≡ open_line 0 105 4
  -- number 2 and number 4 rest in it then
  pub buy_row : row_in once_open.book 1 ≡ 1 ∷ 105 ∷ 5 ∷ []
  pub sell_row : row_in once_open.book 3 ≡ 2 ∷ 108 ∷ 3 ∷ []
  -- tenant 4 has an entry waiting before each of ten turns
  pub no_reset : NoReset busy ten_turns
  pub waits : WaitsBeforeEach 4 busy ten_turns
  pub all_turns : turns_taken (answers busy ten_turns) ≡ 10

pub computed : Computed
unfolding sum_to same lower precedes first_to least_to greatest_to table key_of within open_size buy_price sell_price rests_for highest_buy lowest_sell
    resting_within resting_rows is_order free_row found_by found best_offer crosses rested class_of before earlier left fill sort_key sooner_than pos of_traded records
    volume bought sold matched after_fills buy_goes sell_goes after_opening opening_records one_or_two from1to series_in_range protections_in_range
    prints_in_range in_range priced new_order cancelling malformed lower_offer quotes_of not_yet off_grid at_strike no_offer unbid no_bid converts as_judged
    too_wide far_buy far_sell far_price might_rest no_room used_up turn_down verdict entry_at slot waiting_at put put_all joined taken distance served_by
    served valid midpoint usable first_valid price_of settings_of too_high away_refusal away_of well_counted some_malformed submit_refusal submit_of added_from
    quotes_on turn_refusal after_taking rests cancels ordered dealt turn_of choice_in way_refusal open_at open_of ◌and◌ ◌or◌ is_not pick lower_if
computed = record {
  taken_in = refl;
  new_order_lem = refl;
  turned_down = refl;
  cancel = refl;
  cancels_first = refl;
  cancelled = refl;
  asks = (refl, refl);
  asks_for = (refl, refl);
  given_out = refl;
  never_given = refl;
  numbers = refl;
  crossed = refl;
  opened = refl;
  buy_row = refl;
  sell_row = refl;
  no_reset = (refl, (refl, (refl, (refl, (refl, (refl, (refl, (refl, (refl, (refl, (refl, (refl, (refl, tt)))))))))))));
  waits = (λ _. refl, (λ _. refl, (λ _. refl, (λ _. refl, (λ _. refl, (λ _. refl, (λ _. refl, (λ _. refl, (λ _. refl, (λ _. refl, (λ _. refl, (λ _. refl, (λ _. refl, tt)))))))))))));
  all_turns = refl;
}
