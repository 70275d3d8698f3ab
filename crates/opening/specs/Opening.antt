-- The opening's match at a price P.
use Rattle.std.specs.Prelude.{Bool, cond, ◌&&◌, ◌||◌, List, ℕ, ◌+◌, ◌-◌, min, max, leb, ltb, eqb}
use Rattle.units.specs.Units.{cents}
use Rattle.units.specs.Places.{table}
use Rattle.rows.specs.Passes.{highest_buy, lowest_sell, resting_within}
use Rattle.book.specs.Book.{Book, side_at, price_at, size_at, owner_at, number_at, within_bound, with_sizes, best_bid, best_sell}
use Rattle.book.specs.Allocation.{Resting, time, fill}
use Rattle.book.specs.Records.{sort_key, records, written}
use Rattle.book.specs.Trading.{reach}
use Rattle.opening.specs.declared.cancels.Cut.{Cut}

module _ (b : Book) (p : ℕ) where
  -- At price P, the volume is the lesser of buys at P or more and sells at P or less.
  unfoldable pub volume : ℕ
  volume = min (within_bound b 1 p) (within_bound b 2 p)

  -- Each side fills it best price first, then lower number, in every class.
  abbrev pub fills_on : ℕ → ℕ → ℕ
  fills_on side = fill (reach b side p) volume time

  unfoldable pub bought : ℕ → ℕ
  bought = fills_on 1

  unfoldable pub sold : ℕ → ℕ
  sold = fills_on 2

  unfoldable pub matched : ℕ → ℕ
  matched i = bought i + sold i

  -- what the fills leave
  unfoldable pub after_fills : Book
  after_fills = with_sizes b (table (λ i. size_at b i - matched i) b.places)

  -- If buys at P or more remain, each buy at or above the lowest remaining sell is cancelled;
  unfoldable pub buy_goes : ℕ → Bool
  buy_goes i = eqb (side_at b i) 1 && ltb 0 (within_bound after_fills 1 p) && leb (best_sell after_fills) (price_at b i)

  -- if sells at P or less remain, each sell at or below the highest remaining buy is.
  unfoldable pub sell_goes : ℕ → Bool
  sell_goes i = eqb (side_at b i) 2 && ltb 0 (within_bound after_fills 2 p) && leb (price_at b i) (best_bid after_fills)

  -- the book after the opening
  unfoldable pub after_opening : Book
  after_opening = with_sizes b (table (λ i. cond (buy_goes i || sell_goes i) 0 (size_at after_fills i)) b.places)

  -- row i is cancelled: something was left of it, and it goes
  unfoldable pub gone : ℕ → Bool
  gone i = ltb 0 (size_at after_fills i) && (buy_goes i || sell_goes i)

  -- Fill records, all at P: buys in that order, then sells.
  abbrev pub matched_rows : Resting
  matched_rows = record { places = b.places; size = matched; key = λ i. sort_key (side_at b i) (price_at b i); number = number_at b }

  unfoldable pub opening_records : ℕ
  opening_records = records matched_rows

  unfoldable pub opening_written : List ℕ → List ℕ
  opening_written = written matched_rows (owner_at b) (λ i. p)

-- ---- as the program tells it

-- what row i trades where both sides fill q contracts at p: each row is on one side, and trades nothing on the other
abbrev pub both_fill : Book → ℕ → ℕ → ℕ → ℕ
both_fill b p q i = max (fill (reach b 1 p) q time i) (fill (reach b 2 p) q time i)

-- If buys at p or more remain, each buy at or above the lowest remaining sell is cancelled;
unfoldable pub buy_cut : Cut → ℕ → ℕ → Bool
buy_cut cut side price = eqb side 1 && cut.buys && leb cut.lowest.0 price

-- if sells at p or less remain, each sell at or below the highest remaining buy is.
unfoldable pub sell_cut : Cut → ℕ → ℕ → Bool
sell_cut cut side price = eqb side 2 && cut.sells && leb price cut.highest.0

-- what that leaves of a row
unfoldable pub kept_by : Cut → ℕ → ℕ → ℕ → ℕ
kept_by cut side price size = cond (buy_cut cut side price || sell_cut cut side price) 0 size

-- which of n rows an opening at p cancels, where the sizes are what the fills left
abbrev pub cut_of : ℕ → (ℕ → ℕ) → (ℕ → ℕ) → (ℕ → ℕ) → ℕ → Cut
cut_of n side price size p = record {
  buys = ltb 0 (resting_within n side price size 1 p);
  lowest = cents (lowest_sell n side price size);
  sells = ltb 0 (resting_within n side price size 2 p);
  highest = cents (highest_buy n side price size);
}

-- what that leaves of row i
abbrev pub kept_of : ℕ → (ℕ → ℕ) → (ℕ → ℕ) → (ℕ → ℕ) → ℕ → ℕ → ℕ
kept_of n side price size p i = kept_by (cut_of n side price size p) (side i) (price i) (size i)
