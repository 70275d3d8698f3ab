-- An order that is not filled in full has traded with all that rested within its bound: what is left of that side is
-- beyond the bound.
use Rattle.std.specs.Prelude.{◌≡◌, true, false, ℕ, ◌-◌, ◌<◌}
use Rattle.std.proofs.Common.{sym, ap, ◌∙◌, arith}
use Rattle.std.proofs.Math.Decide.{dec_le}
use Rattle.units.specs.Sums.{sum_tight}
use Rattle.units.specs.Places.{table_at}
use Rattle.rows.specs.Rows.{selling, within, open_size}
use Rattle.rows.specs.RowLaws.{within_offer, within_bid}
use Rattle.rows.specs.Passes.{resting_within}
use Rattle.book.specs.Book.{Book, side_at, price_at, size_at}
use Rattle.book.specs.AllocationLaws.{Distinct}
use Rattle.book.specs.Trading.{reach, filled, traded, after_trade}
use Rattle.book.specs.TradingLaws.{open_all, traded_open, all_traded}

module _ (b : Book) (side bound q allocation : ℕ) (apart : Distinct (reach b side bound)) (short : filled b side bound q < q) where
  -- each row trades all that may be traded of it
  swept : (i : ℕ) → i < b.places → traded b side bound q allocation i ≡ open_size side bound (side_at b i) (price_at b i) (size_at b i)
  unfolding filled resting_within
  swept =
      sum_tight {f = traded b side bound q allocation} {g = (reach b side bound).size} b.places
      (λ i _. traded_open b side bound q allocation i)
      (omega (arith, all_traded b side bound q allocation apart))

  left_is : (i : ℕ) → i < b.places
      → size_at (after_trade b side bound q allocation) i ≡ size_at b i - open_size side bound (side_at b i) (price_at b i) (size_at b i)
  unfolding after_trade
  left_is i p = omega (arith, table_at (λ j. size_at b j - traded b side bound q allocation j) b.places i p, swept i p)

  -- no row that is left of the side is within the bound:
  none_within : (i : ℕ) → i < b.places → 0 < size_at (after_trade b side bound q allocation) i → side_at b i ≡ side
      → within side (price_at b i) bound ≡ true → ⊥
  none_within i p x s h = omega (arith, left_is i p, open_all side bound (side_at b i) (price_at b i) (size_at b i) s h)

  -- of a side that buys each is below it,
  pub left_below : selling side ≡ false → (i : ℕ) → i < b.places → 0 < size_at (after_trade b side bound q allocation) i → side_at b i ≡ side
      → price_at b i < bound
  left_below e i p x s = elim (dec_le bound (price_at b i)) [
    | yes h ↦ absurd (none_within i p x s (within_bid side (price_at b i) bound e h))
    | no h ↦ omega arith
  ]

  -- of one that sells each is above it
  pub left_above : selling side ≡ true → (i : ℕ) → i < b.places → 0 < size_at (after_trade b side bound q allocation) i → side_at b i ≡ side
      → bound < price_at b i
  left_above e i p x s = elim (dec_le (price_at b i) bound) [
    | yes h ↦ absurd (none_within i p x s (within_offer side (price_at b i) bound e h))
    | no h ↦ omega arith
  ]

  -- so of buys and of sells
  pub bids_left : side ≡ 1 → (i : ℕ) → i < b.places → 0 < size_at (after_trade b side bound q allocation) i → side_at b i ≡ 1 → price_at b i < bound
  bids_left e i p x s = left_below (ap selling e) i p x (s ∙ sym e)

  pub offers_left : side ≡ 2 → (i : ℕ) → i < b.places → 0 < size_at (after_trade b side bound q allocation) i → side_at b i ≡ 2 → bound < price_at b i
  offers_left e i p x s = left_above (ap selling e) i p x (s ∙ sym e)
