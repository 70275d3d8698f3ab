-- E1 to E12 of the paper and the example of the nickel classes, of the rules' own definitions: one record with a field
-- for each, and one value of it.
use Rattle.std.specs.Prelude.{◌≡◌, refl, true, false, List, [], ◌∷◌, ℕ}
use Rattle.units.specs.Grid.{stepping, highest_on}
use Rattle.units.specs.GridLaws.{E4, e4 as grid_two}
use Rattle.units.specs.Tests.{◌and◌, ◌or◌, is_not, pick}
use Rattle.units.specs.Cases.{lower_if}
use Rattle.units.specs.Sums.{sum_to}
use Rattle.units.specs.Picked.{same, lower, precedes}
use Rattle.units.specs.Firsts.{first_to}
use Rattle.units.specs.Leasts.{least_to, greatest_to}
use Rattle.units.specs.Places.{table}
use Rattle.numeral.specs.Examples.{E12, e12 as numbers_read}
use Rattle.rows.specs.Rows.{key_of, within, open_size, buy_price, sell_price, rests_for}
use Rattle.rows.specs.Passes.{highest_buy, lowest_sell, resting_within, resting_rows}
use Rattle.book.specs.Book.{Book, best_offer, crosses}
use Rattle.book.specs.Allocation.{class_of, before, level, earlier, ahead, rank, left, whole, leftover, extra, fill}
use Rattle.book.specs.Records.{sort_key, sooner_than, pos, of_traded, records, recorded, field_of, written}
use Rattle.book.specs.Trading.{filled, traded, after_trade, trade_records, trade_written}
use Rattle.opening.specs.Opening.{volume, bought, sold, matched, after_fills, buy_goes, sell_goes, after_opening, opening_records, opening_written}
use Rattle.entry.specs.Quotes.{lower_offer, quotes_of}
use Rattle.checks.specs.TurnDown.{not_yet, off_grid, at_strike, no_offer, unbid, no_bid, converts, as_judged, too_wide, far_buy, far_sell, far_price, might_rest, no_room, used_up, turn_down}
use Rattle.judge.specs.Bound.{buy_bound, bound_of}
use Rattle.judge.specs.Disposition.{beyond_drill, at_away, disposition_of}
use Rattle.judge.specs.Verdict.{verdict}
use Rattle.judge.specs.Examples.{E5, E9, examples as orders_judged}
use Rattle.lanes.specs.Ring.{entry_at, slot, waiting_at}
use Rattle.lanes.specs.Rotation.{distance, served_by, served}
use Rattle.lanes.specs.Examples.{E10, e10 as lanes_served}
use Rattle.price.specs.Amounts.{minimum_amount}
use Rattle.price.specs.Price.{near_either, valid, midpoint, usable, first_valid, price_of}
use Rattle.price.specs.Examples.{E6, InGridTwo, InGridThree, e6 as prices_chosen, nickels as prices_on_grids}
use Rattle.session.specs.Market.{Market}
use Rattle.dealing.specs.Deal.{quotes_on, filled_of, disposition_in, book_after, trades, ordered, dealt}
use Rattle.session.specs.Turn as turn
use Rattle.session.specs.Turn.{turn_refusal, after_taking, turn_of}
use Rattle.dealing.specs.Open.{choice_in, way_refusal}
use Rattle.session.specs.Open as opening
use Rattle.session.specs.Open.{open_at, open_of}
use Rattle.demands.specs.Markets.{terms, terms_on, away_quote, session_on}
use Rattle.demands.specs.Values.{turn_line, open_line}

-- offers at one price, of the sizes given, numbered from 1
abbrev offers_of : List ℕ → ℕ → Book
offers_of sizes n = record {
  places = n;
  sides = 2 ∷ 2 ∷ 2 ∷ 2 ∷ [];
  prices = 100 ∷ 100 ∷ 100 ∷ 100 ∷ [];
  sizes = sizes;
  owners = 0 ∷ 0 ∷ 0 ∷ 0 ∷ [];
  numbers = 1 ∷ 2 ∷ 3 ∷ 4 ∷ [];
}

-- what each trades in proportion with an order of q
abbrev shares : List ℕ → ℕ → ℕ → List ℕ
shares sizes n q = table (traded (offers_of sizes n) 2 100 q 2) n

-- two offers of tenants 3 and 4, numbered 1 and 2, and a free row
abbrev offers : ℕ → ℕ → ℕ → ℕ → Book
offers p s p' s' = record {
  places = 3;
  sides = 2 ∷ 2 ∷ 0 ∷ [];
  prices = p ∷ p' ∷ 0 ∷ [];
  sizes = s ∷ s' ∷ 0 ∷ [];
  owners = 3 ∷ 4 ∷ 0 ∷ [];
  numbers = 1 ∷ 2 ∷ 0 ∷ [];
}

-- offers 103×4, 105×6, away offer 104, D and F 10; tenant 0's day buy 20 at 106 waits
abbrev pub seventh : Market
seventh = record {
  session = session_on true (terms 10 10 0) (away_quote 0 104) 3;
  book = offers 103 4 105 6;
  entries = 1 ∷ 1 ∷ 1 ∷ 106 ∷ 20 ∷ 0 ∷ [];
}

-- offers 100×1, 104×1, no away, D 5, F 20; tenant 0's day buy 9 at 112 waits
abbrev pub eighth : Market
eighth = record {
  session = session_on true (terms 5 20 0) (away_quote 0 0) 3;
  book = offers 100 1 104 1;
  entries = 1 ∷ 1 ∷ 1 ∷ 112 ∷ 9 ∷ 0 ∷ [];
}

-- buys #1 110×5, #2 105×5; sells #3 104×4, #4 108×3; unopened, and 105 the last print
abbrev pub eleventh : Market
eleventh = record {
  session = session_on false (terms 10 20 105) (away_quote 0 0) 5;
  book = record {
    places = 4;
    sides = 1 ∷ 1 ∷ 2 ∷ 2 ∷ [];
    prices = 110 ∷ 105 ∷ 104 ∷ 108 ∷ [];
    sizes = 5 ∷ 5 ∷ 4 ∷ 3 ∷ [];
    owners = 0 ∷ 1 ∷ 2 ∷ 3 ∷ [];
    numbers = 1 ∷ 2 ∷ 3 ∷ 4 ∷ [];
  };
  entries = [];
}

-- grid 2, away 298/306; a buy at 305 and a sell at 295; unopened
abbrev pub nickel : Market
nickel = record {
  session = session_on false (terms_on (stepping 1 5) 10 20 0) (away_quote 298 306) 3;
  book = record {
    places = 2;
    sides = 1 ∷ 2 ∷ [];
    prices = 305 ∷ 295 ∷ [];
    sizes = 1 ∷ 1 ∷ [];
    owners = 0 ∷ 1 ∷ [];
    numbers = 1 ∷ 2 ∷ [];
  };
  entries = [];
}

pub record Examples : Type 0 where
  -- E1 sizes 5, 5, 5, 5, Q 10: 3, 3, 2, 2.
  pub e1 : shares (5 ∷ 5 ∷ 5 ∷ 5 ∷ []) 4 10 ≡ 3 ∷ 3 ∷ 2 ∷ 2 ∷ []
  -- E2 sizes 10, 30, 20, Q 7: 1, 4, 2.
  pub e2 : shares (10 ∷ 30 ∷ 20 ∷ []) 3 7 ≡ 1 ∷ 4 ∷ 2 ∷ []
  -- E3 sizes 1, 1, 1, Q 1: 1, 0, 0.
  pub e3 : shares (1 ∷ 1 ∷ 1 ∷ []) 3 1 ≡ 1 ∷ 0 ∷ 0 ∷ []
  -- E4 grid 2: 299 and 305 pass, 301 doesn't.
  pub e4 : E4
  -- E5 x 10, least 25, greatest 500: 90/110 passes, 85/115 is 15.
  pub e5 : E5
  -- E6 grid 1, away 100/151: midpoint 125 valid. 100/153: 126 isn't; last print 120 is; so is close 128.
  pub e6 : E6
  -- E7 offers 103×4, 105×6, away offer 104, D and F 10, day buy 20 at 106: 4 at 103, disposition 4.
  pub e7 :
      (turn.printed (turn_of seventh 216 []).answer ≡ turn_line 0 0 3 4 4)
      × ((turn_of seventh 216 []).records ≡ 1 ∷ 3 ∷ 4 ∷ 103 ∷ 0 ∷ 0 ∷ 0 ∷ 0 ∷ 0 ∷ 0 ∷ 0 ∷ 0 ∷ [])
      × ((turn_of seventh 216 []).market.book.sizes ≡ 0 ∷ 6 ∷ 0 ∷ [])
  -- E8 offers 100×1, 104×1, no away, D 5, F 20, day buy 9 at 112: 2 filled, disposition 3.
  pub e8 :
      (turn.printed (turn_of eighth 216 []).answer ≡ turn_line 0 0 3 2 3)
      × ((turn_of eighth 216 []).market.book.sizes ≡ 0 ∷ 0 ∷ 0 ∷ [])
  -- E9 put, strike 500, grid 2: buy 500 is 12, 495 passes.
  pub e9 : E9
  -- E10 rotation at 0, lanes 0, 3, 5 hold 20, 1, 1: turns go 0, 3, 5, 0, 0.
  pub e10 : E10
  -- E11 P 105; buys #1 110×5, #2 105×5; sells #3 104×4, #4 108×3: volume 4, #1 and #3 trade 4, then #1 is cancelled.
  pub e11 :
      (opening.printed (open_of eleventh 216 []).answer ≡ open_line 0 105 4)
      × ((open_of eleventh 216 []).records ≡ 1 ∷ 0 ∷ 4 ∷ 105 ∷ 3 ∷ 2 ∷ 4 ∷ 105 ∷ 0 ∷ 0 ∷ 0 ∷ 0 ∷ 0 ∷ 0 ∷ 0 ∷ 0 ∷ [])
      × ((open_of eleventh 216 []).market.book.sizes ≡ 0 ∷ 5 ∷ 0 ∷ 3 ∷ [])
  -- E12 0 is 00, 128 is 80 01, 300 is AC 02; 80 00 is 31.
  pub e12 : E12
  -- The opening price in nickel classes: away 298/306 in grid 2 opens at 300; and midpoints in grids 2 and 3.
  pub nickels :
      (opening.printed (open_of nickel 216 []).answer ≡ open_line 0 300 1)
      × ((open_of nickel 216 []).records ≡ 1 ∷ 0 ∷ 1 ∷ 300 ∷ 2 ∷ 1 ∷ 1 ∷ 300 ∷ [])
      × InGridTwo
      × InGridThree

pub examples : Examples
unfolding sum_to same lower precedes first_to least_to greatest_to table key_of within open_size buy_price sell_price rests_for highest_buy lowest_sell
    resting_within resting_rows best_offer crosses class_of before level earlier ahead rank left whole leftover extra fill sooner_than pos of_traded
    records recorded field_of written filled traded after_trade trade_records trade_written sort_key volume bought sold matched after_fills
    buy_goes sell_goes after_opening opening_records opening_written lower_offer quotes_of not_yet off_grid at_strike no_offer unbid no_bid converts
    as_judged too_wide far_buy far_sell far_price might_rest no_room used_up turn_down buy_bound bound_of beyond_drill at_away disposition_of verdict
    entry_at slot waiting_at distance served_by served minimum_amount near_either valid highest_on midpoint usable first_valid price_of
    quotes_on turn_refusal after_taking filled_of disposition_in book_after trades ordered dealt turn_of choice_in way_refusal open_at open_of
    ◌and◌ ◌or◌ is_not pick lower_if
examples = record {
  e1 = refl;
  e2 = refl;
  e3 = refl;
  e4 = grid_two;
  e5 = orders_judged.0;
  e6 = prices_chosen;
  e7 = (refl, refl, refl);
  e8 = (refl, refl);
  e9 = orders_judged.1;
  e10 = lanes_served;
  e11 = (refl, refl, refl);
  e12 = numbers_read;
  nickels = (refl, refl, prices_on_grids.0, prices_on_grids.1);
}
