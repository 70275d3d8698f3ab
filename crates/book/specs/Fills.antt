-- Fill records as a row of fills.
use Rattle.std.specs.Prelude.{ℕ, zero, suc, ◌+◌, ◌*◌, ◌≤◌, List, [], ◌∷◌, ◌++◌, length, drop, get_or}
use Rattle.units.specs.Units.{cents, contracts}
use Rattle.units.specs.Places.{at}
use Rattle.rows.specs.Rows.{rows}
use Rattle.book.specs.Records.{fields}
use Rattle.book.specs.declared.Fill.{Fill}

-- a fill with nothing in it
abbrev pub no_fill : Fill
no_fill = record { number = 0; tenant = 0; quantity = contracts 0; price = cents 0 }

-- fill k of a row; past its end there is nothing
abbrev pub fill_in : List Fill → ℕ → Fill
fill_in row k = get_or row k no_fill

-- record i of flat numbers, four to a record: order number, tenant, quantity and price
abbrev pub fill_at : List ℕ → ℕ → Fill
fill_at records i = record {
  number = at records (fields * i);
  tenant = at records (fields * i + 1);
  quantity = contracts (at records (fields * i + 2));
  price = cents (at records (fields * i + 3));
}

-- n fills, from record i on
abbrev pub fills_from : List ℕ → ℕ → ℕ → List Fill
fills_from records i zero = []
fills_from records i (suc n) = fill_at records i ∷ fills_from records (suc i) n

-- the row with the first n fills at its start; fills past those written stay as found
abbrev pub stored : List ℕ → ℕ → List Fill → List Fill
stored records n row = fills_from records 0 n ++ drop n row

-- so many fills are among the records, and the row has room for them
abbrev pub Fits : ℕ → List Fill → Type 0
Fits n row = (n ≤ rows) × (n ≤ length row)
