-- Sheets and what is told of them, computed.
use Rattle.std.specs.Prelude.{◌≡◌, refl, List, [], ◌∷◌, ◌++◌, ℕ}
use Rattle.units.specs.Units.{cents, contracts}
use Rattle.units.specs.Tests.{◌and◌, ◌or◌, is_not, pick}
use Rattle.units.specs.Decimal.{spelled, decimal, read_on}
use Rattle.entry.specs.Numbers.{from1to}
use Rattle.sheet.specs.declared.Order.{Order}
use Rattle.sheet.specs.Bytes.{up_to, behind, is_digit, all_digits, same}
use Rattle.sheet.specs.Line.{Right, Wrong, rest_at, field_at, is_tenant, is_side, is_size, is_kind, is_dollars, is_price, is_life, wrong_field, fault_of, side_of, kind_of, price_of, life_of, order_of, line_of}
use Rattle.sheet.specs.Sheet.{ended, refused, nothing_but, ending_at, told, told_of}
use Rattle.sheet.specs.Spelling.{sheet_of}

-- tenant 2 buys 5 at 1.05 for the day
abbrev buys : Order
buys = record { tenant = 2; entry = record { kind = 1; side = 1; life = 1; price = cents 105; size = contracts 5; number = 0 } }

-- tenant 9, whom submit refuses, sells 7 at the market, now
abbrev sells : Order
sells = record { tenant = 9; entry = record { kind = 2; side = 2; life = 2; price = cents 0; size = contracts 7; number = 0 } }

-- `2 BUY 5 LMT 1.05 DAY`
abbrev buy_line : List ℕ
buy_line = 50 ∷ 32 ∷ 66 ∷ 85 ∷ 89 ∷ 32 ∷ 53 ∷ 32 ∷ 76 ∷ 77 ∷ 84 ∷ 32 ∷ 49 ∷ 46 ∷ 48 ∷ 53 ∷ 32 ∷ 68 ∷ 65 ∷ 89 ∷ []

-- `9 SELL 007 MKT - NOW`
abbrev sell_line : List ℕ
sell_line = 57 ∷ 32 ∷ 83 ∷ 69 ∷ 76 ∷ 76 ∷ 32 ∷ 48 ∷ 48 ∷ 55 ∷ 32 ∷ 77 ∷ 75 ∷ 84 ∷ 32 ∷ 45 ∷ 32 ∷ 78 ∷ 79 ∷ 87 ∷ []

spelt_so : sheet_of (buys ∷ []) ≡ buy_line ++ (10 ∷ [])
unfolding sheet_of pick decimal spelled
spelt_so = refl

-- right lines, and lines with a fault: nothing; a space more behind the life; a carriage return there; a seventh digit
-- of the size; one decimal; a price at the market; no word behind the price; two faults, of which the left one counts
lines :
    (line_of buy_line ≡ Right buys) ×
    (line_of sell_line ≡ Right sells) ×
    (line_of [] ≡ Wrong 44) ×
    (line_of (buy_line ++ (32 ∷ [])) ≡ Wrong 43) ×
    (line_of (buy_line ++ (13 ∷ [])) ≡ Wrong 43) ×
    (line_of (50 ∷ 32 ∷ 66 ∷ 85 ∷ 89 ∷ 32 ∷ 48 ∷ 48 ∷ 48 ∷ 48 ∷ 48 ∷ 48 ∷ 53 ∷ 32 ∷ []) ≡ Wrong 44) ×
    (line_of (50 ∷ 32 ∷ 66 ∷ 85 ∷ 89 ∷ 32 ∷ 53 ∷ 32 ∷ 76 ∷ 77 ∷ 84 ∷ 32 ∷ 49 ∷ 46 ∷ 48 ∷ 32 ∷ 68 ∷ 65 ∷ 89 ∷ []) ≡ Wrong 44) ×
    (line_of (50 ∷ 32 ∷ 66 ∷ 85 ∷ 89 ∷ 32 ∷ 53 ∷ 32 ∷ 77 ∷ 75 ∷ 84 ∷ 32 ∷ 49 ∷ 46 ∷ 48 ∷ 53 ∷ 32 ∷ 68 ∷ 65 ∷ 89 ∷ []) ≡ Wrong 44) ×
    (line_of (50 ∷ 32 ∷ 66 ∷ 85 ∷ 89 ∷ 32 ∷ 53 ∷ 32 ∷ 77 ∷ 75 ∷ 84 ∷ 32 ∷ 45 ∷ []) ≡ Wrong 43) ×
    (line_of (50 ∷ 32 ∷ 98 ∷ 117 ∷ 121 ∷ 32 ∷ 45 ∷ 53 ∷ []) ≡ Wrong 43)
unfolding ◌and◌ ◌or◌ is_not pick read_on from1to up_to behind is_digit all_digits same rest_at field_at is_tenant is_side is_size is_kind is_dollars is_price is_life wrong_field fault_of side_of
    kind_of price_of life_of order_of line_of
lines = (refl, refl, refl, refl, refl, refl, refl, refl, refl, refl)

-- the empty sheet; an empty line; a byte without a newline
sheets :
    (told_of [] ≡ nothing_but ended) ×
    (told_of (10 ∷ []) ≡ nothing_but (refused 44 1)) ×
    (told_of (50 ∷ []) ≡ nothing_but (refused 45 1))
unfolding ◌and◌ ◌or◌ is_not pick up_to behind all_digits same rest_at field_at is_tenant wrong_field fault_of line_of ending_at told told_of
sheets = (refl, refl, refl)
