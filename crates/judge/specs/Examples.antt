-- The marked examples about one incoming order, computed.
use Rattle.std.specs.Prelude.{◌≡◌, refl, Bool, true, false, ℕ}
use Rattle.units.specs.declared.grid.Grid.{Grid}
use Rattle.units.specs.Units.{cents, contracts}
use Rattle.units.specs.Grid.{stepping}
use Rattle.units.specs.Tests.{◌and◌, ◌or◌, is_not, pick}
use Rattle.units.specs.Cases.{higher_if}
use Rattle.entry.specs.declared.Entry.{Entry}
use Rattle.entry.specs.declared.Quotes.{Quotes}
use Rattle.entry.specs.declared.Terms.{Terms}
use Rattle.entry.specs.Quotes.{lower_offer, quotes_of}
use Rattle.checks.specs.declared.Standing.{Standing}
use Rattle.checks.specs.TurnDown.{not_yet, off_grid, at_strike, no_offer, unbid, no_bid, converts, as_judged, above_percent, too_wide, far_buy, far_sell, far_price, might_rest, no_room, used_up, turn_down}
use Rattle.judge.specs.Judged.{TurnedDown, Trades}
use Rattle.judge.specs.Bound.{sell_bound, bound_of}
use Rattle.judge.specs.Disposition.{beyond_drill, at_away, disposition_of}
use Rattle.judge.specs.Verdict.{verdict}

-- a new order by kind, side, life, price and size
abbrev order : ℕ → ℕ → ℕ → ℕ → ℕ → Entry
order kind side life price size =
    record { kind = kind; side = side; life = life; price = cents price; size = contracts size; number = 0 }

abbrev day_buy : ℕ → Entry
day_buy price = order 1 1 1 price 1

abbrev market_buy : Entry
market_buy = order 2 1 2 0 1

abbrev market_sell : Entry
market_sell = order 2 2 1 0 7

abbrev sell_at_one : Entry
sell_at_one = order 1 2 1 1 7

-- the book's best bid and offer, and no away quote
abbrev quotes : ℕ → ℕ → Quotes
quotes best_bid best_offer = quotes_of best_bid best_offer (record { bid = cents 0; offer = cents 0 })

-- time class, D 10, F 20, x 10, least 25, greatest 500, no prints; the grid, put or call, and strike as given
abbrev terms : Grid → Bool → ℕ → Terms
terms grid put strike = record {
  allocation = 1;
  grid = grid;
  put = put;
  strike = cents strike;
  drill = cents 10;
  far = cents 20;
  percent = 10;
  least = cents 25;
  greatest = cents 500;
  print = cents 0;
  close = cents 0;
}

-- a call on grid 1, and a put on grid 2
abbrev call_terms : Terms
call_terms = terms (stepping 1 1) false 10000

abbrev put_terms : Terms
put_terms = terms (stepping 1 5) true 500

abbrev trading : Standing
trading = record { opened = true; resting = 0; next = 1 }

-- E5 x 10, least 25, greatest 500: 90/110 passes, 85/115 is 15.
abbrev pub E5 : Type 0
E5 = (turn_down market_buy (quotes 90 110) call_terms trading ≡ 0) × (turn_down market_buy (quotes 85 115) call_terms trading ≡ 15)

-- E9 put, strike 500, grid 2: buy 500 is 12, 495 passes.
abbrev pub E9 : Type 0
E9 = (turn_down (day_buy 500) (quotes 0 0) put_terms trading ≡ 12) × (turn_down (day_buy 495) (quotes 0 0) put_terms trading ≡ 0)

-- a market sell for the day with no bid and an offer of 50 becomes a limit at the lowest step and rests there; with an
-- offer of 51 it is 14
abbrev pub Converted : Type 0
Converted =
    (verdict market_sell (quotes 0 50) call_terms trading ≡ Trades sell_at_one (cents 1))
    × (disposition_of sell_at_one (quotes 0 50) call_terms (contracts 7) ≡ 1)
    × (verdict market_sell (quotes 0 51) call_terms trading ≡ TurnedDown 14)

pub examples : E5 × E9 × Converted
unfolding verdict turn_down not_yet off_grid at_strike no_offer unbid no_bid converts as_judged above_percent too_wide far_buy far_sell far_price might_rest no_room used_up
    sell_bound bound_of beyond_drill at_away disposition_of lower_offer quotes_of ◌and◌ ◌or◌ is_not pick higher_if
examples = ((refl, refl), (refl, refl), (refl, refl, refl))
