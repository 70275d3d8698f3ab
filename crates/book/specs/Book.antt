-- A book: its rows, its best prices, whose rows rest, and what resting and cancelling make of it.
use Rattle.std.specs.Prelude.{Bool, cond, List, ℕ, leb, set, replicate}
use Rattle.units.specs.Places.{at}
use Rattle.rows.specs.Rows.{rows, highest}
use Rattle.rows.specs.Passes.{highest_buy, lowest_sell, resting_within, resting_rows, free_row}

-- row i is what stands at place i of each column; a row of size 0 is free
pub record Book : Type 0 where
  -- how many rows there are: places 0 to places - 1
  pub places : ℕ
  pub sides : List ℕ
  pub prices : List ℕ
  pub sizes : List ℕ
  pub owners : List ℕ
  pub numbers : List ℕ

-- the book of five columns
abbrev pub book_of : List ℕ → List ℕ → List ℕ → List ℕ → List ℕ → Book
book_of sides prices sizes owners numbers =
    record { places = rows; sides = sides; prices = prices; sizes = sizes; owners = owners; numbers = numbers }

-- an empty book of n rows: every column 0 throughout
abbrev pub empty_book : ℕ → Book
empty_book n = record {
  places = n;
  sides = replicate n 0;
  prices = replicate n 0;
  sizes = replicate n 0;
  owners = replicate n 0;
  numbers = replicate n 0;
}

module _ (b : Book) where
  abbrev pub side_at : ℕ → ℕ
  side_at = at b.sides

  abbrev pub price_at : ℕ → ℕ
  price_at = at b.prices

  abbrev pub size_at : ℕ → ℕ
  size_at = at b.sizes

  abbrev pub owner_at : ℕ → ℕ
  owner_at = at b.owners

  abbrev pub number_at : ℕ → ℕ
  number_at = at b.numbers

  -- the book's best bid, 0 where there is none
  abbrev pub best_bid : ℕ
  best_bid = highest_buy b.places side_at price_at size_at

  -- the lowest resting sell, above every price where there is none
  abbrev pub best_sell : ℕ
  best_sell = lowest_sell b.places side_at price_at size_at

  -- the book's best offer, 0 where there is none
  unfoldable pub best_offer : ℕ
  best_offer = cond (leb best_sell highest) best_sell 0

  -- some resting buy is at or above some resting sell
  unfoldable pub crosses : Bool
  crosses = leb best_sell best_bid

  -- how many rows a tenant has resting
  abbrev pub resting_of : ℕ → ℕ
  resting_of = resting_rows b.places owner_at size_at

  -- contracts that may be traded on a side within a bound
  abbrev pub within_bound : ℕ → ℕ → ℕ
  within_bound = resting_within b.places side_at price_at size_at

  -- the first free row
  abbrev pub first_free : ℕ
  first_free = free_row b.places size_at

  -- an order in a row
  abbrev pub rested_at : ℕ → ℕ → ℕ → ℕ → ℕ → ℕ → Book
  rested_at row side price size owner number = record {
    places = b.places;
    sides = set b.sides row side;
    prices = set b.prices row price;
    sizes = set b.sizes row size;
    owners = set b.owners row owner;
    numbers = set b.numbers row number;
  }

  -- an order rests in the first free row
  unfoldable pub rested : ℕ → ℕ → ℕ → ℕ → ℕ → Book
  rested = rested_at first_free

  -- the rows with other sizes
  abbrev pub with_sizes : List ℕ → Book
  with_sizes sizes =
      record { places = b.places; sides = b.sides; prices = b.prices; sizes = sizes; owners = b.owners; numbers = b.numbers }

  -- a cancel frees the row
  unfoldable pub freed : ℕ → Book
  freed i = with_sizes (set b.sizes i 0)
