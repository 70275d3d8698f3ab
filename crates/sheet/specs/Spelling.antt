-- An order spelt as a line.
use Rattle.std.specs.Prelude.{◌≡◌, ◌⊎◌, List, [], ◌∷◌, ◌++◌, ℕ, ◌/◌, ◌%◌, ◌≤◌, eqb}
use Rattle.units.specs.Tests.{pick}
use Rattle.units.specs.Decimal.{decimal, two_digits}
use Rattle.sheet.specs.declared.Order.{Order}
use Rattle.sheet.specs.Line.{space, point, buy_word, sell_word, limit_word, market_word, dash, day_word, now_word, day_of}
use Rattle.sheet.specs.Sheet.{newline}

-- the orders that a line can say: a tenant of one digit, a size of six at most, and a price of five dollar digits at
-- most, or none for the market
pub record CanSpell (o : Order) : Type 0 where
  pub tenant : o.tenant ≤ 9
  pub side : (o.entry.side ≡ 1) ⊎ (o.entry.side ≡ 2)
  pub size : o.entry.size.0 ≤ 999999
  pub price : ((o.entry.kind ≡ 1) × (o.entry.price.0 ≤ 9999999)) ⊎ ((o.entry.kind ≡ 2) × (o.entry.price.0 ≡ 0))
  pub life : (o.entry.life ≡ day_of) ⊎ (o.entry.life ≡ 2)
  pub number : o.entry.number ≡ 0

-- cents as dollars, a point and two digits
abbrev pub dollars_text : ℕ → List ℕ
dollars_text cents = decimal (cents / 100) ++ (point ∷ two_digits (cents % 100))

-- its six fields
abbrev pub side_text : Order → List ℕ
side_text o = pick (eqb o.entry.side 1) buy_word sell_word

abbrev pub kind_text : Order → List ℕ
kind_text o = pick (eqb o.entry.kind 1) limit_word market_word

abbrev pub price_text : Order → List ℕ
price_text o = pick (eqb o.entry.kind 1) (dollars_text o.entry.price.0) dash

abbrev pub life_text : Order → List ℕ
life_text o = pick (eqb o.entry.life day_of) day_word now_word

-- and the line, with one space between them
abbrev pub spelt : Order → List ℕ
spelt o =
    decimal o.tenant ++ (space ∷ side_text o ++ (space ∷ decimal o.entry.size.0 ++ (space ∷ kind_text o ++ (space ∷ price_text o ++ (space ∷ life_text o)))))

-- a sheet of orders
unfoldable pub sheet_of : List Order → List ℕ
sheet_of [] = []
sheet_of (o ∷ os) = spelt o ++ (newline ∷ sheet_of os)
