-- What an opening comes to: as much is bought as sold, and the open book is neither locked nor crossed.
use Rattle.std.specs.Prelude.{◌≡◌, Bool, false, ◌||◌, ℕ, ◌-◌, ◌≤◌, ◌<◌}
use Rattle.std.proofs.Math.Path.{refl}
use Rattle.std.proofs.Common.{sym}
use Rattle.std.proofs.Math.Bool.{true, cond}
use Rattle.std.proofs.Math.Decide.{ℕ_discrete, dec_le}
use native.Mathlib.Omega.{arith}
use borrow.Author.Tests.{eq-eqb, ne_eqb, lt-ltb, le-leb}
use Rattle.units.specs.Tests.{order, less, equal, more}
use Rattle.units.specs.Sums.{sum_to, sum_has}
use Rattle.units.specs.Picked.{same, same_in, same_out}
use Rattle.units.specs.Places.{table_at}
use Rattle.rows.specs.Rows.{within, open_size}
use Rattle.rows.specs.RowLaws.{within_offer, within_bid}
use Rattle.rows.specs.Passes.{resting_within}
use Rattle.allocation.specs.RangeLaws.{open_most}
use Rattle.book.specs.Book.{Book, side_at, price_at, size_at, number_at, within_bound, best_bid, best_sell}
use Rattle.book.specs.BookLaws.{buy_most, sell_least}
use Rattle.book.specs.Allocation.{time}
use Rattle.book.specs.AllocationLaws.{Distinct, fill_most, all_filled}
use Rattle.book.specs.Trading.{reach}
use Rattle.book.specs.TradingLaws.{open_side, open_all, reach_apart}
use Rattle.opening.specs.Opening.{volume, fills_on, bought, sold, matched, after_fills, buy_goes, sell_goes, after_opening, matched_rows}

cond_most : (t : Bool) (x : ℕ) → cond t 0 x ≤ x
cond_most true x = omega arith
cond_most false x = omega arith

-- what may trade on a side within a bound includes each of its rows there
stands : (b : Book) (side q i : ℕ) → i < b.places → side_at b i ≡ side → within side (price_at b i) q ≡ true → size_at b i ≤ within_bound b side q
unfolding resting_within
stands b side q i p e h =
    omega (arith, sum_has (reach b side q).size b.places i p, open_all side q (side_at b i) (price_at b i) (size_at b i) e h)

-- ---- the fills

module _ (b : Book) (p : ℕ) where
  module _ (side : ℕ) where
    -- no row trades more on a side than may be traded of it,
    fills_open : (i : ℕ) → fills_on b p side i ≤ open_size side p (side_at b i) (price_at b i) (size_at b i)
    fills_open = fill_most (reach b side p) (volume b p) time

    -- nor more than it holds;
    fills_most : (i : ℕ) → fills_on b p side i ≤ size_at b i
    fills_most i = omega (arith, fills_open i, open_most side p (side_at b i) (price_at b i) (size_at b i))

    -- one that trades is on that side,
    pub fills_side : (i : ℕ) → 0 < fills_on b p side i → side_at b i ≡ side
    fills_side i x = open_side side p (side_at b i) (price_at b i) (size_at b i) (omega (arith, fills_open i))

    -- and one of another trades nothing
    pub fills_other : (i : ℕ) → (side_at b i ≡ side → ⊥) → fills_on b p side i ≡ 0
    fills_other i h = elim (order 0 (fills_on b p side i)) [
      | less x ↦ absurd (h (fills_side i x))
      | equal x ↦ sym x
      | more x ↦ omega arith
    ]

  -- what a buy matches is bought, what a sell matches is sold
  pub matched_buy : (i : ℕ) → same (side_at b) 1 (matched b p) i ≡ bought b p i
  unfolding matched bought sold
  matched_buy i = elim (ℕ_discrete (side_at b i) 1) [
    | yes e ↦ omega (arith, same_in (side_at b) 1 (matched b p) i e, fills_other 2 i (omega arith))
    | no e ↦ omega (arith, same_out (side_at b) 1 (matched b p) i e, fills_other 1 i e)
  ]

  pub matched_sell : (i : ℕ) → same (side_at b) 2 (matched b p) i ≡ sold b p i
  unfolding matched bought sold
  matched_sell i = elim (ℕ_discrete (side_at b i) 2) [
    | yes e ↦ omega (arith, same_in (side_at b) 2 (matched b p) i e, fills_other 1 i (omega arith))
    | no e ↦ omega (arith, same_out (side_at b) 2 (matched b p) i e, fills_other 2 i e)
  ]

  -- no row trades more than it holds
  pub matched_most : (i : ℕ) → matched b p i ≤ size_at b i
  unfolding matched bought sold
  matched_most i = elim (ℕ_discrete (side_at b i) 1) [
    | yes e ↦ omega (arith, fills_most 1 i, fills_other 2 i (omega arith))
    | no e ↦ omega (arith, fills_most 2 i, fills_other 1 i e)
  ]

  pub left_is : (i : ℕ) → i < b.places → size_at (after_fills b p) i ≡ size_at b i - matched b p i
  unfolding after_fills
  left_is i h = table_at _ b.places i h

  -- the cancels add nothing,
  pub opening_left : (i : ℕ) → i < b.places → size_at (after_opening b p) i ≤ size_at (after_fills b p) i
  unfolding after_opening
  opening_left i h = rw (table_at (λ j. cond (buy_goes b p j || sell_goes b p j) 0 (size_at (after_fills b p) j)) b.places i h)
      (cond_most (buy_goes b p i || sell_goes b p i) (size_at (after_fills b p) i))

  -- so no row grows
  pub opening_most : (i : ℕ) → i < b.places → size_at (after_opening b p) i ≤ size_at b i
  opening_most i h = omega (arith, opening_left i h, left_is i h)

  -- ---- the cancels

  gone_to_0 : (i : ℕ) → i < b.places → (t : Bool) → (buy_goes b p i || sell_goes b p i) ≡ t → t ≡ true → size_at (after_opening b p) i ≡ 0
  unfolding after_opening
  gone_to_0 i h t e e' = rw (table_at (λ j. cond (buy_goes b p j || sell_goes b p j) 0 (size_at (after_fills b p) j)) b.places i h, e, e') refl

  -- a buy that stays is below the lowest sell, unless no buy at p or more was left
  buy_stays : (i : ℕ) → i < b.places → side_at b i ≡ 1 → 0 < size_at (after_opening b p) i → 0 < within_bound (after_fills b p) 1 p
      → price_at b i < best_sell (after_fills b p)
  unfolding buy_goes
  buy_stays i h e x s = elim (dec_le (best_sell (after_fills b p)) (price_at b i)) [
    | yes l ↦
        let goes : (buy_goes b p i || sell_goes b p i) ≡ true =
        simp (eq-eqb (side_at b i) 1 e, lt-ltb 0 (within_bound (after_fills b p) 1 p) s, le-leb (best_sell (after_fills b p)) (price_at b i) l) in
        omega (arith, gone_to_0 i h true goes refl)
    | no l ↦ omega arith
  ]

  sell_stays : (i : ℕ) → i < b.places → side_at b i ≡ 2 → 0 < size_at (after_opening b p) i → 0 < within_bound (after_fills b p) 2 p
      → best_bid (after_fills b p) < price_at b i
  unfolding buy_goes sell_goes
  sell_stays i h e x s = elim (dec_le (price_at b i) (best_bid (after_fills b p))) [
    | yes l ↦
        let goes : (buy_goes b p i || sell_goes b p i) ≡ true =
        simp (ne_eqb (side_at b i) 1 (omega arith), eq-eqb (side_at b i) 2 e, lt-ltb 0 (within_bound (after_fills b p) 2 p) s, le-leb (price_at b i) (best_bid (after_fills b p)) l) in
        omega (arith, gone_to_0 i h true goes refl)
    | no l ↦ omega arith
  ]

  -- After an opening at p, whatever p is, no remaining buy is at or above a remaining sell: the open book is neither
  -- locked nor crossed.
  pub never_locked_or_crossed : (i j : ℕ) → i < b.places → j < b.places → 0 < size_at (after_opening b p) i → 0 < size_at (after_opening b p) j
      → side_at b i ≡ 1 → side_at b j ≡ 2 → price_at b i < price_at b j
  unfolding after_fills
  never_locked_or_crossed i j hi hj x y e e' =
      let a = after_fills b p in
      let x' : 0 < size_at a i = omega (arith, opening_left i hi) in
      let y' : 0 < size_at a j = omega (arith, opening_left j hj) in
      elim (order 0 (within_bound a 1 p)) [
        | less h ↦ omega (arith, buy_stays i hi e x h, sell_least a j hj y' e')
        | equal h ↦ elim (order 0 (within_bound a 2 p)) [
          | less k ↦ omega (arith, sell_stays j hj e' y k, buy_most a i hi x' e)
          | equal k ↦ elim (dec_le p (price_at b i)) [
            | yes l ↦ omega (arith, stands a 1 p i hi e (within_bid 1 (price_at b i) p refl l))
            | no l ↦ elim (dec_le (price_at b j) p) [
              | yes m ↦ omega (arith, stands a 2 p j hj e' (within_offer 2 (price_at b j) p refl m))
              | no m ↦ omega arith
            ]
          ]
          | more k ↦ omega arith
        ]
        | more h ↦ omega arith
      ]

  -- ---- what is bought and sold, where live numbers are distinct

  module _ (apart : (i j : ℕ) → i < b.places → j < b.places → 0 < size_at b i → 0 < size_at b j → number_at b i ≡ number_at b j → i ≡ j) where
    -- All buys together trade the volume, and so do all sells: as much is bought as sold.
    fills_all : (side : ℕ) → volume b p ≤ within_bound b side p → sum_to (fills_on b p side) b.places ≡ volume b p
    unfolding resting_within
    fills_all side h = omega (arith, all_filled (reach b side p) (volume b p) (reach_apart b side p apart) time)

    pub all_bought : sum_to (bought b p) b.places ≡ volume b p
    unfolding bought volume
    all_bought = fills_all 1 (omega arith)

    pub all_sold : sum_to (sold b p) b.places ≡ volume b p
    unfolding sold volume
    all_sold = fills_all 2 (omega arith)

    pub matched_apart : Distinct (matched_rows b p)
    matched_apart i j h h' x y e = apart i j h h' (omega (arith, matched_most i)) (omega (arith, matched_most j)) e
