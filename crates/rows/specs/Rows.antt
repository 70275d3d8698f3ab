-- One row, by its side (1 buy, 2 sell), price, size, owner and order number: how it stands to a bound, and what it
-- counts for.
use Rattle.std.specs.Prelude.{Bool, cond, ◌&&◌, ℕ, ◌-◌, leb, ltb, eqb}
use Rattle.units.specs.Picked.{keep}

-- The book has 216 rows,
abbrev pub rows : ℕ
rows = 216

-- 24 for each tenant.
abbrev pub rows_a_tenant : ℕ
rows_a_tenant = 24

-- prices are 1 to 1,000,000
abbrev pub highest : ℕ
highest = 1000000

-- above every price
abbrev pub no_price : ℕ
no_price = 1000001

-- sizes are 1 to 999,999
abbrev pub largest : ℕ
largest = 999999

-- order numbers run from 1 to 4,294,967,295
abbrev pub last_number : ℕ
last_number = 4294967295

-- above every order number
abbrev pub no_number : ℕ
no_number = 4294967296

-- a side sells, where it is 2; else it buys
abbrev pub selling : ℕ → Bool
selling side = eqb side 2

-- the key of a price on a side, where a lower key is a better price: an offer's price, and what a bid's price lacks of
-- the highest
unfoldable pub key_of : ℕ → ℕ → ℕ
key_of side price = cond (selling side) price (highest - price)

-- a price is no worse than the bound: an offer is not above it, a bid not below
unfoldable pub within : ℕ → ℕ → ℕ → Bool
within side price bound = cond (selling side) (leb price bound) (leb bound price)

-- what may be traded of a row by an order that trades with one side within a bound: its size, if it is on the side and
-- within the bound
unfoldable pub open_size : ℕ → ℕ → ℕ → ℕ → ℕ → ℕ
open_size side bound row_side price size = keep (eqb row_side side && within side price bound) size

-- a row's price if it is a resting buy, else 0
unfoldable pub buy_price : ℕ → ℕ → ℕ → ℕ
buy_price side price size = keep (eqb side 1 && ltb 0 size) price

-- a row's price if it is a resting sell, else above every price
unfoldable pub sell_price : ℕ → ℕ → ℕ → ℕ
sell_price side price size = cond (selling side && ltb 0 size) price no_price

-- a row rests for a tenant
unfoldable pub rests_for : ℕ → ℕ → ℕ → Bool
rests_for tenant owner size = ltb 0 size && eqb owner tenant

-- a row is the resting order of that number, and that tenant's
unfoldable pub is_order : ℕ → ℕ → ℕ → ℕ → ℕ → Bool
is_order tenant number owner row_number size = ltb 0 size && eqb owner tenant && eqb row_number number
