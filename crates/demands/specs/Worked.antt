-- The worked example of the paper, run from a fresh market of 216 rows: what its calls answer, computed on the
-- definitions, and what is printed of it.
use Rattle.std.specs.Prelude.{◌≡◌, refl, true, List, [], ◌∷◌, ◌++◌, ℕ, replicate}
use Rattle.std.proofs.Common.{ap, ◌∙◌, arith}
use Rattle.std.proofs.lemmas.List.{length-replicate}
use Rattle.units.specs.Units.{contracts}
use Rattle.units.specs.Tests.{◌and◌, ◌or◌, is_not, pick}
use Rattle.units.specs.Cases.{lower_if, higher_if}
use Rattle.units.specs.Sums.{sum_to}
use Rattle.units.specs.Picked.{same, lower, precedes}
use Rattle.units.specs.Firsts.{first_to}
use Rattle.units.specs.Leasts.{least_to, greatest_to}
use Rattle.units.specs.Places.{table}
use Rattle.rows.specs.Rows.{rows, key_of, within, open_size, buy_price, sell_price, rests_for}
use Rattle.rows.specs.Passes.{highest_buy, lowest_sell, resting_within, resting_rows, free_row}
use Rattle.book.specs.Book.{best_offer, crosses, rested}
use Rattle.book.specs.Allocation.{class_of, before, earlier, left, fill}
use Rattle.book.specs.Records.{sooner_than, pos, of_traded, records, recorded, field_of, written}
use Rattle.book.specs.Trading.{of_tenant, filled, traded, after_trade, trade_records, trade_written}
use Rattle.tally.specs.Tallies.{zero, plus, tally_at, added_from}
use Rattle.entry.specs.Numbers.{one_or_two, from1to}
use Rattle.entry.specs.Settings.{series_in_range, protections_in_range, prints_in_range, in_range}
use Rattle.entry.specs.Entry.{priced, new_order, cancelling, malformed}
use Rattle.entry.specs.Quotes.{lower_offer, quotes_of}
use Rattle.checks.specs.TurnDown.{not_yet, off_grid, at_strike, no_offer, unbid, no_bid, converts, as_judged, too_wide, far_buy, far_sell, far_price, might_rest, no_room, used_up, turn_down}
use Rattle.judge.specs.Bound.{buy_bound, sell_bound, bound_of}
use Rattle.judge.specs.Disposition.{beyond_drill, at_away, disposition_of}
use Rattle.judge.specs.Verdict.{verdict}
use Rattle.lanes.specs.Ring.{lane_of, entry_at, slot, waiting_at, put, put_all, joined, taken}
use Rattle.lanes.specs.Rotation.{distance, served_by, served}
use Rattle.price.specs.Price.{usable, midpoint, valid, first_valid, price_of}
use Rattle.session.specs.TurnAnswer.{TurnAnswer}
use Rattle.session.specs.TurnAnswer as answer
use Rattle.session.specs.Market.{Market}
use Rattle.session.specs.Settings.{settings_of}
use Rattle.lanes.specs.Bulk.{well_counted, some_malformed}
use Rattle.session.specs.Submit.{submit_refusal, submit_of}
use Rattle.dealing.specs.Deal.{quotes_on, rests, filled_of, disposition_in, book_after, trades, ordered, dealt}
use Rattle.session.specs.Turn.{refused, printed, fills_in, turn_refusal, after_taking, turn_of}
use Rattle.dealing.specs.Settle.{resting_share, tallies_after}
use Rattle.dealing.specs.Open.{choice_in, way_refusal}
use Rattle.session.specs.Open.{open_quiet, open_of}
use Rattle.fills.specs.Calls.{blank}
use Rattle.demands.specs.Markets.{fresh, worked, terms, away_quote}
use Rattle.demands.specs.Runs.{Call, settings, submit, turn, opening, step, after, Start, Reached}
use Rattle.demands.specs.Values.{Values, of_call, of_turn, of_open, values_by, turn_line, open_line}
use Rattle.demands.specs.SoundnessProof.{reached_sound}
use Rattle.demands.specs.Demand2.{turn_printed, turn_fills, OrderAccepted, RecordAt, place_of, trades as row_trades}
use Rattle.demands.specs.Demand2Fills.{orders_filled}

-- Time class, grid 1, call, strike 10000, D 10, F 20, x 10, least 25, greatest 500, no prints; open; tenant 2 buys 5 at
-- 100 for the day; tenant 7 sells 3 at 100 now;
abbrev submits : List Call
submits =
    settings worked
    ∷ opening rows blank
    ∷ submit 2 1 (1 ∷ 1 ∷ 1 ∷ 100 ∷ 5 ∷ 0 ∷ [])
    ∷ submit 7 1 (1 ∷ 2 ∷ 2 ∷ 100 ∷ 3 ∷ 0 ∷ [])
    ∷ []

-- three turns.
abbrev pub takes : Call
takes = turn rows blank

abbrev pub calls : List Call
calls = submits ++ (takes ∷ takes ∷ takes ∷ [])

-- before the first turn both orders wait,
abbrev waiting : Market
waiting = after fresh submits

-- before the second the buy rests as number 1, and the sell waits,
abbrev pub crossing : Market
crossing = record {
  session = record {
    accepted = true;
    terms = terms 10 20 0;
    away = away_quote 0 0;
    opened = true;
    lanes = record {
      lanes =
          lane_of 0 0 ∷ lane_of 0 0 ∷ lane_of 1 0 ∷ lane_of 0 0 ∷ lane_of 0 0 ∷ lane_of 0 0 ∷ lane_of 0 0 ∷ lane_of 0 1 ∷ lane_of 0 0 ∷ [];
      place = 3;
    };
    next = 2;
    tallies = (turn_of waiting rows blank).market.session.tallies;
  };
  book = record {
    places = rows;
    sides = 1 ∷ replicate 215 0;
    prices = 100 ∷ replicate 215 0;
    sizes = 5 ∷ replicate 215 0;
    owners = 2 ∷ replicate 215 0;
    numbers = 1 ∷ replicate 215 0;
  };
  entries = (turn_of waiting rows blank).market.entries;
}

-- and before the third nobody waits.
abbrev pub idle : Market
idle = (step crossing takes).market

-- what the calls answer, and the market before the second turn; of that turn what row 0 trades, and the tallies of the
-- two tenants
pub record Computed : Type 0 where
  pub begins : values_by fresh submits ≡ of_call 0 ∷ of_open (open_line 0 0 0) ∷ of_call 0 ∷ of_call 0 ∷ []
  pub rests : printed (turn_of waiting rows blank).answer ≡ turn_line 2 0 1 0 1
  pub leads : (turn_of waiting rows blank).market ≡ crossing
  pub trades : (turn_of crossing rows blank).answer ≡ answer.Accepted 7 2 (contracts 3) 0 1
  pub row_trades_lem : row_trades crossing 7 0 ≡ 3
  pub buyer : tally_at idle.session.tallies 2 ≡ plus zero 1 3 0
  pub seller : tally_at idle.session.tallies 7 ≡ plus zero 1 0 3
  pub refused : (turn_of idle rows blank).answer ≡ answer.Refused 5

pub computed : Computed
unfolding sum_to same lower precedes first_to least_to greatest_to table key_of within open_size buy_price sell_price rests_for
    highest_buy lowest_sell resting_within resting_rows free_row best_offer crosses rested class_of before earlier left fill
    sooner_than pos of_traded records recorded field_of written of_tenant filled traded after_trade trade_records trade_written
    one_or_two from1to series_in_range protections_in_range prints_in_range in_range priced new_order cancelling malformed lower_offer quotes_of
    not_yet off_grid at_strike no_offer unbid no_bid converts as_judged too_wide far_buy far_sell far_price might_rest no_room used_up turn_down
    buy_bound sell_bound bound_of beyond_drill at_away disposition_of verdict entry_at slot waiting_at put put_all joined taken distance served_by served
    usable midpoint valid first_valid price_of settings_of well_counted some_malformed submit_refusal submit_of added_from
    quotes_on turn_refusal after_taking rests filled_of disposition_in book_after resting_share tallies_after trades ordered dealt turn_of
    choice_in way_refusal open_quiet open_of ◌and◌ ◌or◌ is_not pick lower_if higher_if
computed =
    record { begins = refl; rests = refl; leads = refl; trades = refl; row_trades_lem = refl; buyer = refl; seller = refl; refused = refl }

pub fresh_starts : Start fresh
fresh_starts = record {
  new = refl;
  places = refl;
  sides_long = length-replicate {A = ℕ} rows 0;
  prices_long = length-replicate {A = ℕ} rows 0;
  sizes_long = length-replicate {A = ℕ} rows 0;
  owners_long = length-replicate {A = ℕ} rows 0;
  numbers_long = length-replicate {A = ℕ} rows 0;
}

pub crossing_reached : Reached crossing
crossing_reached = record {
  start = fresh;
  starts = fresh_starts;
  calls = submits ++ (takes ∷ []);
  leads = computed.leads;
}

-- the second turn's order is accepted, and wrote one fill record
pub sell_accepted : OrderAccepted (turn_printed crossing rows blank) 7 2 3 0
sell_accepted = record { values = ap printed computed.trades; no_cancel = omega arith }

pub one_record : turn_fills crossing rows blank ≡ 1
one_record = ap fills_in computed.trades

-- fill 1 2 3 100
one_fill : RecordAt (turn_of crossing rows blank).records 0 1 2 3 100
one_fill =
    let (_, _, recorded, _) = orders_filled.filled crossing rows blank 7 2 3 0 (reached_sound crossing crossing_reached) refl sell_accepted in
    let (first, is) = recorded.of_row 0 (omega arith) (omega (arith, computed.row_trades_lem)) in
    let e : place_of crossing 7 0 ≡ 0 = omega (arith, first, one_record) in
    rw (e, computed.row_trades_lem) at is

-- set 0, open 0 0 0, submit 0, submit 0, turn 2 0 1 0 1, turn 7 0 2 3 0 with fill 1 2 3 100, refused 5
pub worked_example :
    (values_by fresh calls
    ≡ of_call 0
    ∷ of_open (open_line 0 0 0)
    ∷ of_call 0
    ∷ of_call 0
    ∷ of_turn (turn_line 2 0 1 0 1)
    ∷ of_turn (turn_line 7 0 2 3 0)
    ∷ of_turn (refused 5)
    ∷ [])
    × RecordAt (turn_of crossing rows blank).records 0 1 2 3 100
worked_example = (
  (λ i. computed.begins i ++ (of_turn (computed.rests i) ∷ values_by (computed.leads i) (takes ∷ takes ∷ [])))
      ∙ (λ i. begun ++ (said (computed.trades i) ∷ said (computed.refused i) ∷ [])),
  one_fill,
)
  where
    begun : List Values
    begun = of_call 0 ∷ of_open (open_line 0 0 0) ∷ of_call 0 ∷ of_call 0 ∷ of_turn (turn_line 2 0 1 0 1) ∷ []

    said : TurnAnswer → Values
    said a = of_turn (printed a)
