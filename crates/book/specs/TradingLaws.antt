-- Laws of trading: what a row gives, what all together give, and how the columns that the program works out are those
-- of the definitions.
use Rattle.std.specs.Prelude.{◌≡◌, Bool, true, false, ◌&&◌, List, [], ℕ, ◌*◌, ◌-◌, ◌/◌, ◌≤◌, ◌<◌, min, eqb, length, replicate}
use Rattle.std.proofs.Math.Path.{refl, sym, ap}
use Rattle.std.proofs.Common.{◌∙◌, arith}
use Rattle.std.proofs.Math.Decide.{ℕ_discrete}
use Rattle.std.proofs.lemmas.List.{length-replicate, get_or-replicate}
use borrow.Author.Tests.{le-ltb, eq-eqb, ne_eqb, leb-true}
use Rattle.units.specs.Sums.{sum_to, sum_none, sum_has}
use Rattle.units.specs.Picked.{keep, precedes}
use Rattle.units.specs.Units.{contracts}
use Rattle.units.specs.Places.{at, table, table_at, table_is, table_same}
use Rattle.rows.specs.Rows.{rows, key_of, within, open_size}
use Rattle.rows.specs.Passes.{resting_within}
use Rattle.levels.specs.Levels.{keys_on}
use Rattle.allocation.specs.RangeLaws.{open_most}
use Rattle.book.specs.Book.{Book, book_of, side_at, price_at, size_at, number_at, within_bound}
use Rattle.book.specs.Allocation.{fill, class_of}
use Rattle.book.specs.AllocationLaws.{Distinct, fill_most, all_filled}
use Rattle.book.specs.Records.{sort_key, records, written, fields}
use Rattle.book.specs.RecordLaws.{traded_out}
use Rattle.book.specs.Trading.{reach, filled, traded, after_trade, traded_rows, trade_records, trade_written}
use Rattle.book.specs.Answers.{traded_of}
use Rattle.book.specs.Recording.{sort_keys, took}
use Rattle.book.specs.SameRecords.{sort_order, records_same, written_same}
use Rattle.book.specs.Fit.{Fit}
use Rattle.book.specs.declared.trading.Traded.{Traded}

-- what may be traded with an order that trades with side s is on side s
pub open_side : (s bound side price size : ℕ) → 0 < open_size s bound side price size → side ≡ s
unfolding open_size
open_side s bound side price size x = elim (ℕ_discrete side s) [
  | yes e ↦ e
  | no e ↦ absurd (omega (arith, simp (ne_eqb side s e) at x))
]

-- and within the bound:
pub open_within : (s bound side price size : ℕ) → 0 < open_size s bound side price size → within s price bound ≡ true
unfolding open_size
open_within s bound side price size = go (eqb side s) (within s price bound)
  where
    go : (a b : Bool) → 0 < keep (a && b) size → b ≡ true
    go true true x = refl
    go true false x = absurd (omega arith)
    go false b x = absurd (omega arith)

-- an offer not above it, a bid not below
pub offer_within : (bound side price size : ℕ) → 0 < open_size 2 bound side price size → price ≤ bound
unfolding within
offer_within bound side price size x = leb-true price bound (open_within 2 bound side price size x)

pub bid_within : (bound side price size : ℕ) → 0 < open_size 1 bound side price size → bound ≤ price
unfolding within
bid_within bound side price size x = leb-true bound price (open_within 1 bound side price size x)

-- and all of a row on side s and within the bound may be
pub open_all : (s bound side price size : ℕ) → side ≡ s → within s price bound ≡ true → open_size s bound side price size ≡ size
unfolding open_size
open_all s bound side price size e h = simp (eq-eqb side s e, h)

module _ (b : Book) (side bound : ℕ) where
  -- live numbers are distinct, so those that may be traded are
  pub reach_apart : ((i j : ℕ) → i < b.places → j < b.places → 0 < size_at b i → 0 < size_at b j → number_at b i ≡ number_at b j → i ≡ j)
      → Distinct (reach b side bound)
  reach_apart h i j p p' x y e = h i j p p'
      (omega (arith, open_most side bound (side_at b i) (price_at b i) (size_at b i)))
      (omega (arith, open_most side bound (side_at b j) (price_at b j) (size_at b j)))
      e

  module _ (q allocation : ℕ) where
    -- no row trades more than may be traded of it,
    pub traded_open : (i : ℕ) → traded b side bound q allocation i ≤ open_size side bound (side_at b i) (price_at b i) (size_at b i)
    unfolding traded
    traded_open i = fill_most (reach b side bound) q (class_of allocation) i

    -- nor more than it holds
    pub traded_most : (i : ℕ) → traded b side bound q allocation i ≤ size_at b i
    traded_most i = omega (arith, traded_open i, open_most side bound (side_at b i) (price_at b i) (size_at b i))

    -- a row that trades is on the side traded with
    pub traded_side : (i : ℕ) → 0 < traded b side bound q allocation i → side_at b i ≡ side
    traded_side i x = open_side side bound (side_at b i) (price_at b i) (size_at b i) (omega (arith, traded_open i))

    -- all together trade what is filled
    pub all_traded : Distinct (reach b side bound) → sum_to (traded b side bound q allocation) b.places ≡ filled b side bound q
    unfolding traded filled resting_within
    all_traded d = all_filled (reach b side bound) q d (class_of allocation)

    pub nothing_traded : within_bound b side bound ≡ 0 → (i : ℕ) → i < b.places → traded b side bound q allocation i ≡ 0
    unfolding resting_within
    nothing_traded z i p = omega (arith, traded_open i, sum_has (reach b side bound).size b.places i p)

-- the columns that the program works out
module _ (sides prices sizes owners numbers : List ℕ) (fit : Fit prices sizes numbers) (side bound q allocation : ℕ) where
  abbrev b : Book
  b = book_of sides prices sizes owners numbers

  abbrev t : ℕ → ℕ
  t = traded b side bound q allocation

  module _ (qs : List ℕ) (are : qs ≡ table (fill (reach (book_of sides prices sizes [] numbers) side bound) q (class_of allocation)) rows) where
    quantity_is : (i : ℕ) → i < rows → at qs i ≡ t i
    unfolding traded
    quantity_is i p = rw are (table_at _ rows i p)

    pub took_apart : Distinct (took sides prices qs numbers)
    took_apart i j p p' x y e = fit.apart i j p p'
        (omega (arith, quantity_is i p, traded_most b side bound q allocation i))
        (omega (arith, quantity_is j p', traded_most b side bound q allocation j))
        e

    on_side : (i : ℕ) → i < rows → 0 < at qs i → at sides i ≡ side
    on_side i p x = traded_side b side bound q allocation i (omega (arith, quantity_is i p))

    pub trade_shares : qs ≡ table t rows
    unfolding traded
    trade_shares = are

    pub trade_leaves : (l : List ℕ) → l ≡ table (λ i. at sizes i - at qs i) rows → book_of sides prices l owners numbers ≡ after_trade b side bound q allocation
    unfolding after_trade
    trade_leaves l e =
        let same = e ∙ table_same rows (λ i p. ap (λ x. at sizes i - x) (quantity_is i p)) in
        ap (λ z. book_of sides prices z owners numbers) same

    -- those that traded are all on one side, where the order of the records is that of the prices
    orders : (i j : ℕ) → i < rows → j < rows → 0 < at qs i → 0 < at qs j → (a c : ℕ)
        → precedes (sort_key (at sides i) (at prices i)) (sort_key (at sides j) (at prices j)) a c ≡ precedes (key_of side (at prices i)) (key_of side (at prices j)) a c
    orders i j p p' x y a c = rw (on_side i p x, on_side j p' y) (sort_order side (at prices i) (at prices j) a c)

    pub trade_counts : (n : ℕ) → n ≡ records (took sides prices qs numbers) → n ≡ trade_records b side bound q allocation
    unfolding trade_records
    trade_counts n e = e ∙ records_same rows (sort_keys (at sides) (at prices)) (keys_on side (at prices)) (at qs) t (at numbers) quantity_is orders

    pub trade_writes : (l was : List ℕ) → l ≡ written (took sides prices qs numbers) (at owners) (at prices) was → l ≡ trade_written b side bound q allocation was
    unfolding trade_written
    trade_writes l was e = e
        ∙ written_same rows (sort_keys (at sides) (at prices)) (keys_on side (at prices)) (at qs) t (at numbers) quantity_is orders
        (at owners) (at prices) (at prices) (λ i p. refl) was

  -- an order for which nothing may be traded leaves everything as it was
  module _ (nothing : within_bound b side bound ≡ 0) where
    none_traded : (i : ℕ) → i < rows → t i ≡ 0
    none_traded = nothing_traded b side bound q allocation nothing

    pub nothing_shared : replicate rows 0 ≡ table t rows
    nothing_shared = table_is t (replicate rows 0) rows (length-replicate {A = ℕ} rows 0) (λ i p. get_or-replicate {A = ℕ} rows i 0 0 p ∙ sym (none_traded i p))

    pub nothing_left : b ≡ after_trade b side bound q allocation
    unfolding after_trade
    nothing_left = ap (λ z. book_of sides prices z owners numbers)
        (table_is (λ i. at sizes i - t i) sizes rows fit.sizes_long (λ i p. omega (arith, none_traded i p)))

    none_counted : records (traded_rows b side bound q allocation) ≡ 0
    unfolding records
    none_counted = sum_none rows (λ i p. traded_out (traded_rows b side bound q allocation) (λ _. 1) i (none_traded i p))

    pub nothing_counted : 0 ≡ trade_records b side bound q allocation
    unfolding trade_records
    nothing_counted = sym none_counted

    pub nothing_written : (was : List ℕ) → length was ≡ fields * rows → was ≡ trade_written b side bound q allocation was
    unfolding trade_written written
    nothing_written was h = table_is _ was (fields * rows) h λ j p.
        rw (none_counted, le-ltb (j / fields) 0 (omega arith)) refl

    pub nothing_filled : 0 ≡ filled b side bound q
    unfolding filled
    nothing_filled = rw nothing (omega arith)

  pub trade_fills : (f all : ℕ) → f ≡ min q all → all ≡ within_bound b side bound → f ≡ filled b side bound q
  unfolding filled
  trade_fills f all e e' = rw e' at e

  pub trade_answers : (f n : ℕ) → f ≡ filled b side bound q → n ≡ trade_records b side bound q allocation
      → ◌≡◌ {A = Traded} (record { filled = contracts f; fills = n }) (traded_of b side bound q allocation)
  unfolding traded_of
  trade_answers f n e e' = λ j. record { filled = contracts (e j); fills = e' j }

-- a trade leaves whose rows they are, and on which side
pub untraded : (b c : Book) (side bound q allocation : ℕ) → c ≡ after_trade b side bound q allocation → (c.sides ≡ b.sides) × (c.owners ≡ b.owners)
unfolding after_trade
untraded b c side bound q allocation e = (ap (λ (d : Book). d.sides) e, ap (λ (d : Book). d.owners) e)
