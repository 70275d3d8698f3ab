-- The best prices of a sound book, and how many rows a tenant has resting, in words of rows.
use Rattle.std.specs.Prelude.{◌≡◌, Bool, ℕ, ◌≤◌, ◌<◌}
use Rattle.std.proofs.Math.Path.{refl}
use Rattle.std.proofs.Math.Bool.{true, false, cond}
use Rattle.std.proofs.Common.{arith, le-leb, leb-true}
use Rattle.std.proofs.Math.Dec.{leb}
use Rattle.units.specs.Tests.{order, less, equal, more}
use Rattle.units.specs.Counts.{HowMany}
use Rattle.units.specs.CountLaws.{counts}
use Rattle.units.specs.Leasts.{least_found, greatest_found}
use Rattle.rows.specs.Rows.{highest, no_price, buy_price, sell_price, rests_for}
use Rattle.rows.specs.Passes.{highest_buy, lowest_sell, resting_rows}
use Rattle.rows.specs.RowLaws.{buy_found, sell_found, rests_says}
use Rattle.book.specs.Book.{Book, side_at, price_at, size_at, owner_at, best_bid, best_sell, best_offer, resting_of}
use Rattle.book.specs.BookLaws.{sell_least}
use Rattle.book.specs.Sound.{SoundBook}
use Rattle.book.specs.SoundLaws.{row_of}

-- row i rests on a side
pub record RestsOn (b : Book) (side i : ℕ) : Type 0 where
  pub row : i < b.places
  pub rests : 0 < size_at b i
  pub on : side_at b i ≡ side

-- some row that rests on a side has such a price
abbrev pub PricedOn : Book → ℕ → ℕ → Type 0
PricedOn b side price = (i : ℕ) × RestsOn b side i × (price_at b i ≡ price)

-- row i rests for tenant t
abbrev pub OwnRow : Book → ℕ → ℕ → Type 0
OwnRow b t i = (0 < size_at b i) × (owner_at b i ≡ t)

-- so many rows does a tenant have resting
pub resting_counted : (b : Book) (t : ℕ) → HowMany (OwnRow b t) b.places (resting_of b t)
unfolding resting_rows
resting_counted b t = counts (OwnRow b t) (λ i. rests_for t (owner_at b i) (size_at b i)) (λ i. rests_says t (owner_at b i) (size_at b i)) b.places

-- the best bid, where there is one, is the price of a resting buy
pub bid_found : (b : Book) → 0 < best_bid b → PricedOn b 1 (best_bid b)
unfolding highest_buy
bid_found b h =
    let (i, p, is) = greatest_found (λ j. buy_price (side_at b j) (price_at b j) (size_at b j)) b.places h in
    let (side, rests, price) = buy_found (side_at b i) (price_at b i) (size_at b i) (omega arith) in
    (i, record { row = p; rests = rests; on = side }, omega arith)

-- and the lowest sell that of a resting sell
pub lowest_found : (b : Book) → best_sell b ≤ highest → PricedOn b 2 (best_sell b)
unfolding lowest_sell
lowest_found b h =
    let (i, p, is) = least_found no_price (λ j. sell_price (side_at b j) (price_at b j) (size_at b j)) b.places (omega arith) in
    let (side, rests, price) = sell_found (side_at b i) (price_at b i) (size_at b i) (omega arith) in
    (i, record { row = p; rests = rests; on = side }, omega arith)

module _ (b : Book) (next : ℕ) (sound : SoundBook b next) where
  pub bid_most : best_bid b ≤ highest
  bid_most = elim (order 0 (best_bid b)) [
    | less h ↦ (let (i, r, is) = bid_found b h in omega (arith, (row_of sound i r.row r.rests).price_most))
    | equal h ↦ omega arith
    | more h ↦ omega arith
  ]

  -- the best offer, where there is one, is the price of a resting sell
  pub offer_found : 0 < best_offer b → PricedOn b 2 (best_offer b)
  unfolding best_offer
  offer_found = go (leb (best_sell b) highest) refl
    where
      go : (a : Bool) → leb (best_sell b) highest ≡ a → 0 < cond a (best_sell b) 0 → PricedOn b 2 (cond a (best_sell b) 0)
      go true h x = lowest_found b (leb-true _ _ h)
      go false h x = absurd (omega arith)

  -- and where a sell rests there is one, no higher
  pub offer_least : (i : ℕ) → RestsOn b 2 i → (0 < best_offer b) × (best_offer b ≤ price_at b i)
  unfolding best_offer
  offer_least i r =
      let sell = row_of sound i r.row r.rests in
      let (j, found, is) = lowest_found b (omega (arith, sell.price_most, sell_least b i r.row r.rests r.on)) in
      rw (le-leb (best_sell b) highest (omega (arith, sell.price_most, sell_least b i r.row r.rests r.on)))
      (omega (arith, (row_of sound j found.row found.rests).price_least), sell_least b i r.row r.rests r.on)
