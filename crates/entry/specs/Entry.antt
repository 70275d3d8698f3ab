-- The form of an entry: kind (1 limit, 2 market, 3 cancel), side (1 buy, 2 sell), life (1 day, 2 now), price, size,
-- order number.
use Rattle.std.specs.Prelude.{Bool, leb, eqb}
use Rattle.units.specs.Tests.{◌and◌, ◌or◌, is_not}
use Rattle.rows.specs.Rows.{highest, largest}
use Rattle.entry.specs.declared.Entry.{Entry}
use Rattle.entry.specs.Numbers.{one_or_two, from1to}

abbrev pub is_limit : Entry → Bool
is_limit e = eqb e.kind 1

abbrev pub is_market : Entry → Bool
is_market e = eqb e.kind 2

abbrev pub is_cancel : Entry → Bool
is_cancel e = eqb e.kind 3

abbrev pub is_buy : Entry → Bool
is_buy e = eqb e.side 1

abbrev pub is_sell : Entry → Bool
is_sell e = eqb e.side 2

abbrev pub is_day : Entry → Bool
is_day e = eqb e.life 1

abbrev pub is_now : Entry → Bool
is_now e = eqb e.life 2

-- a limit's price is 1 to 1,000,000; price is 0 for market
unfoldable pub priced : Entry → Bool
priced e = (is_limit e and from1to highest e.price.0) or (is_market e and eqb e.price.0 0)

-- a new order: limit or market, buy or sell, day or now, of size 1 to 999,999; number is 0 unless kind 3
unfoldable pub new_order : Entry → Bool
new_order e = priced e and (one_or_two e.side and one_or_two e.life) and (from1to largest e.size.0 and eqb e.number 0)

-- a cancel: its number is 1 or more; side, life, price and size are 0
unfoldable pub cancelling : Entry → Bool
cancelling e =
    (is_cancel e and leb 1 e.number) and (eqb e.side 0 and eqb e.life 0 and (eqb e.price.0 0 and eqb e.size.0 0))

-- Anything else is malformed.
unfoldable pub malformed : Entry → Bool
malformed e = is_not (new_order e or cancelling e)
