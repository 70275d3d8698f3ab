-- A line of a sheet: its six fields, which are wrong, and the order that it says.
use Rattle.std.specs.Prelude.{Bool, List, [], ◌∷◌, ℕ, zero, suc, ◌+◌, ◌*◌, ◌%◌, eqb, length, Option, Some, None, Result, Ok, Err}
use Rattle.units.specs.Units.{cents, contracts}
use Rattle.units.specs.Tests.{◌and◌, ◌or◌, is_not, pick}
use Rattle.units.specs.Cases.{Case, ◌when◌, first_of}
use Rattle.units.specs.Decimal.{value_of}
use Rattle.entry.specs.Numbers.{from1to}
use Rattle.sheet.specs.declared.Order.{Order}
use Rattle.sheet.specs.declared.Refusal.{Refusal}
use Rattle.sheet.specs.declared.Refusal.TheVariants as refusal
use Rattle.sheet.specs.declared.line.Field.{Field}
use Rattle.sheet.specs.declared.line.Field.TheVariants as field
use Rattle.sheet.specs.Bytes.{up_to, behind, all_digits, same}

-- what a line says: an order, or the number by which it is refused
pub data LineRead : Type 0 where
  Right : Order → LineRead
  Wrong : ℕ → LineRead

-- 42 over 64 bytes without a newline; 43 a wrong or missing word; 44 a wrong or missing number, price or dash; 45 a
-- last line without its newline
abbrev pub refusal_number : Refusal → ℕ
refusal_number refusal.TooLong = 42
refusal_number refusal.WrongWord = 43
refusal_number refusal.WrongNumber = 44
refusal_number refusal.Unended = 45

abbrev pub read_of : Result Order Refusal → LineRead
read_of (Ok o) = Right o
read_of (Err why) = Wrong (refusal_number why)

-- the fields, counted from 1, and 0 for none
abbrev pub field_number : Option Field → ℕ
field_number None = 0
field_number (Some field.Tenant) = 1
field_number (Some field.Side) = 2
field_number (Some field.Size) = 3
field_number (Some field.Kind) = 4
field_number (Some field.Price) = 5
field_number (Some field.Life) = 6

-- Fields end at the first five spaces: what stands behind the first i of them
abbrev pub space : ℕ
space = 32

unfoldable pub rest_at : ℕ → List ℕ → List ℕ
rest_at zero line = line
rest_at (suc i) line = rest_at i (behind space line)

-- each of the first five, counted from 0, up to its space; the sixth is all the rest. A field that is missing is empty.
unfoldable pub field_at : ℕ → List ℕ → List ℕ
field_at i line = up_to space (rest_at i line)

abbrev pub tenant_field : List ℕ → List ℕ
tenant_field line = field_at 0 line

abbrev pub side_field : List ℕ → List ℕ
side_field line = field_at 1 line

abbrev pub size_field : List ℕ → List ℕ
size_field line = field_at 2 line

abbrev pub kind_field : List ℕ → List ℕ
kind_field line = field_at 3 line

abbrev pub price_field : List ℕ → List ℕ
price_field line = field_at 4 line

abbrev pub life_field : List ℕ → List ℕ
life_field line = rest_at 5 line

-- `BUY` and `SELL`, `LMT` and `MKT`, `DAY` and `NOW`; the dash of a market line, and the point of a price
abbrev pub buy_word : List ℕ
buy_word = 66 ∷ 85 ∷ 89 ∷ []

abbrev pub sell_word : List ℕ
sell_word = 83 ∷ 69 ∷ 76 ∷ 76 ∷ []

abbrev pub limit_word : List ℕ
limit_word = 76 ∷ 77 ∷ 84 ∷ []

abbrev pub market_word : List ℕ
market_word = 77 ∷ 75 ∷ 84 ∷ []

abbrev pub day_word : List ℕ
day_word = 68 ∷ 65 ∷ 89 ∷ []

abbrev pub now_word : List ℕ
now_word = 78 ∷ 79 ∷ 87 ∷ []

abbrev pub dash : List ℕ
dash = 45 ∷ []

abbrev pub point : ℕ
point = 46

-- The tenant is one digit,
unfoldable pub is_tenant : List ℕ → Bool
is_tenant f = eqb (length f) 1 and all_digits f

unfoldable pub is_side : List ℕ → Bool
is_side f = same f buy_word or same f sell_word

-- the size one to six;
unfoldable pub is_size : List ℕ → Bool
is_size f = from1to 6 (length f) and all_digits f

unfoldable pub is_kind : List ℕ → Bool
is_kind f = same f limit_word or same f market_word

-- a price has one to five, a point and two more,
unfoldable pub is_dollars : List ℕ → Bool
is_dollars f =
    (from1to 5 (length (up_to point f)) and all_digits (up_to point f)) and (eqb (length (behind point f)) 2 and all_digits (behind point f))

-- a market line a dash there.
unfoldable pub is_price : List ℕ → List ℕ → Bool
is_price kind f = pick (same kind limit_word) (is_dollars f) (same f dash)

unfoldable pub is_life : List ℕ → Bool
is_life f = same f day_word or same f now_word

-- the fields that are wrong, counted from 1: first who, which side and how much, then at what terms
abbrev pub wrong_terms : List ℕ → List Case
wrong_terms line =
    (4 when is_not (is_kind (kind_field line)))
    ∷ (5 when is_not (is_price (kind_field line) (price_field line)))
    ∷ (6 when is_not (is_life (life_field line)))
    ∷ []

abbrev pub wrong_fields : List ℕ → List Case
wrong_fields line =
    (1 when is_not (is_tenant (tenant_field line)))
    ∷ (2 when is_not (is_side (side_field line)))
    ∷ (3 when is_not (is_size (size_field line)))
    ∷ wrong_terms line

-- the first of them from the left, 0 where there is none
unfoldable pub wrong_field : List ℕ → ℕ
wrong_field line = first_of 0 (wrong_fields line)

-- 43 a wrong or missing word; 44 a wrong or missing number, price or dash. Numbers and words take turns.
unfoldable pub fault_of : ℕ → ℕ
fault_of field = pick (eqb (field % 2) 0) 43 44

unfoldable pub side_of : List ℕ → ℕ
side_of f = pick (same f buy_word) 1 2

unfoldable pub kind_of : List ℕ → ℕ
kind_of f = pick (same f limit_word) 1 2

-- dollars and cents in cents; 0 for a market line
unfoldable pub price_of : List ℕ → List ℕ → ℕ
price_of kind f = pick (same kind limit_word) (100 * value_of (up_to point f) + value_of (behind point f)) 0

-- the life that `DAY` says
abbrev pub day_of : ℕ
day_of = 1

unfoldable pub life_of : List ℕ → ℕ
life_of f = pick (same f day_word) day_of 2

-- the order that a line says: the tenant, and an entry whose order number is 0
unfoldable pub order_of : List ℕ → Order
order_of line = record {
  tenant = value_of (tenant_field line);
  entry = record {
    kind = kind_of (kind_field line);
    side = side_of (side_field line);
    life = life_of (life_field line);
    price = cents (price_of (kind_field line) (price_field line));
    size = contracts (value_of (size_field line));
    number = 0;
  };
}

-- what a line says: its order, or the number by which it is refused
unfoldable pub line_of : List ℕ → LineRead
line_of line = pick (eqb (wrong_field line) 0) (Right (order_of line)) (Wrong (fault_of (wrong_field line)))
