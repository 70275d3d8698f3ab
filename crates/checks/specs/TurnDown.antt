-- The tests by which a new order is turned down, in the order of checking.
use Rattle.std.specs.Prelude.{ℕ, ◌+◌, ◌-◌, ◌*◌, Bool, List, [], ◌∷◌, leb, ltb}
use Rattle.units.specs.declared.Cents.{Cents}
use Rattle.units.specs.Grid.{lowest_of, on_grid}
use Rattle.units.specs.Tests.{◌and◌, ◌or◌, is_not, pick}
use Rattle.units.specs.Cases.{Case, ◌when◌, first_of}
use Rattle.rows.specs.Rows.{rows_a_tenant, last_number}
use Rattle.entry.specs.declared.Entry.{Entry}
use Rattle.entry.specs.declared.Quotes.{Quotes}
use Rattle.entry.specs.declared.Terms.{Terms}
use Rattle.entry.specs.Numbers.{absent, present}
use Rattle.entry.specs.Entry.{is_limit, is_market, is_buy, is_sell, is_day, is_now}
use Rattle.checks.specs.declared.Standing.{Standing}

-- 10: not open and kind is market or life is now
unfoldable pub not_yet : Entry → Standing → Bool
not_yet e s = is_not s.opened and (is_market e or is_now e)

-- 11: limit off the grid
unfoldable pub off_grid : Entry → Terms → Bool
off_grid e t = is_limit e and is_not (on_grid t.grid e.price)

-- 12: buy limit for a put at or above the strike
unfoldable pub at_strike : Entry → Terms → Bool
at_strike e t = (is_limit e and is_buy e) and (t.put and leb t.strike.0 e.price.0)

-- 13: market buy, no offer
unfoldable pub no_offer : Entry → Quotes → Bool
no_offer e q = (is_market e and is_buy e) and absent q.nbo

-- a market sell with no bid
unfoldable pub unbid : Entry → Quotes → Bool
unbid e q = (is_market e and is_sell e) and absent q.nbb

-- 14: market sell, no bid, offer above 50
unfoldable pub no_bid : Entry → Quotes → Bool
no_bid e q = unbid e q and ltb 50 q.nbo.0

-- 14's other half: an offer of at most 50 (absent counts as 0)
unfoldable pub converts : Entry → Quotes → Bool
converts e q = unbid e q and leb q.nbo.0 50

-- Such an order becomes a limit sell at the grid's lowest step. A converted order is a limit from there on.
unfoldable pub as_judged : Entry → Quotes → Terms → Entry
as_judged e q t = pick (converts e q)
    (record { kind = 1; side = e.side; life = e.life; price = lowest_of t.grid; size = e.size; number = e.number })
    e

-- width w = NBO − NBB, 0 if locked or crossed
abbrev pub width : Cents → Cents → ℕ
width nbb nbo = nbo.0 - nbb.0

-- 200·w > x·(NBB + NBO)
unfoldable pub above_percent : Cents → Cents → ℕ → Bool
above_percent nbb nbo x = ltb (x * (nbb.0 + nbo.0)) (200 * width nbb nbo)

-- 15: market, with both sides present: turned down if w > least and (w > greatest or 200·w > x·(NBB + NBO))
unfoldable pub too_wide : Entry → Quotes → Terms → Bool
too_wide e q t =
    (is_market e and (present q.nbb and present q.nbo))
    and (ltb t.least.0 (width q.nbb q.nbo)
    and (ltb t.greatest.0 (width q.nbb q.nbo) or above_percent q.nbb q.nbo t.percent))

-- buy limit above NBO + F, not checked when that side is absent
unfoldable pub far_buy : Entry → Quotes → Terms → Bool
far_buy e q t = (is_buy e and present q.nbo) and ltb (q.nbo.0 + t.far.0) e.price.0

-- sell limit with price + F below NBB, not checked when that side is absent
unfoldable pub far_sell : Entry → Quotes → Terms → Bool
far_sell e q t = (is_sell e and present q.nbb) and ltb (e.price.0 + t.far.0) q.nbb.0

-- 16: far price; before opening, 16 isn't checked
unfoldable pub far_price : Entry → Quotes → Terms → Standing → Bool
far_price e q t s = (s.opened and is_limit e) and (far_buy e q t or far_sell e q t)

-- the order might rest: day, and limit or converted
unfoldable pub might_rest : Entry → Bool
might_rest e = is_limit e and is_day e

-- 17: tenant already has 24 resting and the order might rest, even if it would trade in full
unfoldable pub no_room : Entry → Standing → Bool
no_room e s = might_rest e and leb rows_a_tenant s.resting

-- 19: numbers used up
unfoldable pub used_up : Standing → Bool
used_up s = ltb last_number s.next

-- the numbers in the order of checking, each with its test; from 16 on of the order as judged
abbrev pub turn_downs : Entry → Quotes → Terms → Standing → List Case
turn_downs e q t s =
    (10 when not_yet e s)
    ∷ (11 when off_grid e t)
    ∷ (12 when at_strike e t)
    ∷ (13 when no_offer e q)
    ∷ (14 when no_bid e q)
    ∷ (15 when too_wide e q t)
    ∷ (16 when far_price (as_judged e q t) q t s)
    ∷ (17 when no_room (as_judged e q t) s)
    ∷ (19 when used_up s)
    ∷ []

-- turned down by the first that applies; 0 is not turned down
unfoldable pub turn_down : Entry → Quotes → Terms → Standing → ℕ
turn_down e q t s = first_of 0 (turn_downs e q t s)
