-- What an order trades with the rows of one side within its bound.
use Rattle.std.specs.Prelude.{List, ℕ, ◌-◌, min}
use Rattle.units.specs.Sums.{sum_to}
use Rattle.units.specs.Picked.{same}
use Rattle.units.specs.Places.{table}
use Rattle.rows.specs.Rows.{key_of, open_size}
use Rattle.book.specs.Book.{Book, side_at, price_at, size_at, owner_at, number_at, within_bound, with_sizes}
use Rattle.book.specs.Allocation.{Resting, fill, class_of}
use Rattle.book.specs.Records.{records, written}

-- what a tenant's rows have of f
unfoldable pub of_tenant : Book → ℕ → (ℕ → ℕ) → ℕ
of_tenant b tenant f = sum_to (same (owner_at b) tenant f) b.places

module _ (b : Book) (side bound : ℕ) where
  -- The order trades with opposite rows within the bound, best price first: those rows as it sees them.
  abbrev pub reach : Resting
  reach = record {
    places = b.places;
    size = λ i. open_size side bound (side_at b i) (price_at b i) (size_at b i);
    key = λ i. key_of side (price_at b i);
    number = number_at b;
  }

  -- filled is the lesser of its size and all such resting size
  unfoldable pub filled : ℕ → ℕ
  filled q = min q (within_bound b side bound)

  module _ (q allocation : ℕ) where
    -- what row i trades with an order of q contracts
    unfoldable pub traded : ℕ → ℕ
    traded = fill reach q (class_of allocation)

    -- each row is left with what it had less what it traded
    unfoldable pub after_trade : Book
    after_trade = with_sizes b (table (λ i. size_at b i - traded i) b.places)

    -- one record for each resting order that traded, best price first, then rising number
    abbrev pub traded_rows : Resting
    traded_rows = record { places = b.places; size = traded; key = reach.key; number = number_at b }

    unfoldable pub trade_records : ℕ
    trade_records = records traded_rows

    -- at the row's price
    unfoldable pub trade_written : List ℕ → List ℕ
    trade_written = written traded_rows (owner_at b) (price_at b)
