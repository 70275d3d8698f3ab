-- What keeps a book sound: an empty one is, trading and cancelling take from rows, resting fills a free one; and a
-- sound book is fit for a match.
use Rattle.std.specs.Prelude.{◌≡◌, false, List, ◌≢◌, ℕ, ◌-◌, ◌≤◌, ◌<◌, length, set}
use Rattle.std.proofs.Common.{sym, ◌∙◌, arith, length-set, get_or-set_same, get_or-set_other}
use Rattle.std.proofs.Math.Decide.{ℕ_discrete}
use Rattle.std.proofs.Math.ListN.{length-replicate}
use Rattle.std.proofs.lemmas.List.{get_or-replicate}
use borrow.Author.Tests.{lt-ltb, le-ltb, eq-eqb, ne_eqb, leb-false}
use Rattle.units.specs.Tests.{order, less, equal, more}
use Rattle.units.specs.Sums.{sum_most, sum_none}
use Rattle.units.specs.Picked.{keep}
use Rattle.units.specs.Places.{at, table, table_at, table_length}
use Rattle.rows.specs.Rows.{rows, rests_for, no_number}
use Rattle.rows.specs.Passes.{resting_rows}
use Rattle.book.specs.Book.{Book, empty_book, size_at, owner_at, number_at, best_bid, best_sell, crosses, resting_of, with_sizes, freed}
use Rattle.book.specs.BookLaws.{buy_most, sell_least}
use Rattle.book.specs.AllocationLaws.{Distinct}
use Rattle.book.specs.Trading.{reach, after_trade, traded}
use Rattle.book.specs.TradingLaws.{reach_apart}
use Rattle.book.specs.Sound.{SoundRow, SoundBook, Below, Uncrossed}
use Rattle.book.specs.Fit.{Whole, Fit}

-- ---- fit for a match

pub sound_whole : {b : Book} {next : ℕ} → SoundBook b next → Whole b
sound_whole s = record {
  sides_long = s.sides_long;
  prices_long = s.prices_long;
  sizes_long = s.sizes_long;
  owners_long = s.owners_long;
  numbers_long = s.numbers_long;
}

pub sound_fit : {b : Book} {next : ℕ} → SoundBook b next → next ≤ no_number → Fit b.prices b.sizes b.numbers
sound_fit s h = record {
  sizes_long = s.sizes_long;
  small = s.size_most;
  priced = λ i p x. (s.row i p x).price_most;
  numbered = λ i p x. omega (arith, (s.row i p x).number_most);
  apart = s.apart;
}

-- live numbers are distinct, so those of the rows that an order may trade with are
pub sound_apart : {b : Book} {next : ℕ} → SoundBook b next → (side bound : ℕ) → Distinct (reach b side bound)
sound_apart {b} s side bound = reach_apart b side bound (λ i j p q. s.apart i j (omega (arith, s.places)) (omega (arith, s.places)))

-- ---- rows that a tenant has resting

-- a row counts for its owner
pub rests_one : (t owner size : ℕ) → 0 < size → owner ≡ t → keep (rests_for t owner size) 1 ≡ 1
unfolding rests_for
rests_one t owner size x e = simp (lt-ltb 0 size x, eq-eqb owner t e)

pub rests_free : (t owner size : ℕ) → size ≡ 0 → keep (rests_for t owner size) 1 ≡ 0
unfolding rests_for
rests_free t owner size z = simp (le-ltb 0 size (omega arith))

pub rests_other : (t owner size : ℕ) → owner ≢ t → keep (rests_for t owner size) 1 ≡ 0
unfolding rests_for
rests_other t owner size n = elim (order 0 size) [
  | less x ↦ simp (lt-ltb 0 size x, ne_eqb owner t n)
  | equal x ↦ simp (le-ltb 0 size (omega arith))
  | more x ↦ omega arith
]

rests_less : (t owner small large : ℕ) → small ≤ large → keep (rests_for t owner small) 1 ≤ keep (rests_for t owner large) 1
rests_less t owner small large h = elim (order 0 small) [
  | less x ↦ elim (ℕ_discrete owner t) [
    | yes e ↦ omega (arith, rests_one t owner small x e, rests_one t owner large (omega arith) e)
    | no e ↦ omega (arith, rests_other t owner small e)
  ]
  | equal x ↦ omega (arith, rests_free t owner small (sym x))
  | more x ↦ omega arith
]

-- where no row grows, no tenant has more rows resting
pub resting_shrinks : (b : Book) (l : List ℕ) → ((i : ℕ) → i < b.places → at l i ≤ size_at b i) → (t : ℕ) → resting_of (with_sizes b l) t ≤ resting_of b t
unfolding resting_rows
resting_shrinks b l h t = sum_most b.places (λ i p. rests_less t (owner_at b i) (at l i) (size_at b i) (h i p))

-- ---- an empty book

-- no row of an empty book rests
pub empty_size : (n i : ℕ) → i < n → size_at (empty_book n) i ≡ 0
empty_size n i p = get_or-replicate n i 0 0 p

-- so it is sound, whatever the next number is
module _ (n next : ℕ) (all : n ≡ rows) where
  none_rests : (i : ℕ) → i < rows → 0 < size_at (empty_book n) i → ⊥
  none_rests i p x = omega (arith, empty_size n i (omega arith))

  pub empty_sound : SoundBook (empty_book n) next
  unfolding resting_rows
  empty_sound = record {
    places = all;
    sides_long = length-replicate n 0 ∙ all;
    prices_long = length-replicate n 0 ∙ all;
    sizes_long = length-replicate n 0 ∙ all;
    owners_long = length-replicate n 0 ∙ all;
    numbers_long = length-replicate n 0 ∙ all;
    size_most = λ i p. omega (arith, empty_size n i (omega arith));
    row = λ i p x. absurd (none_rests i p x);
    apart = λ i j p q x y e. absurd (none_rests i p x);
    room = λ t h. omega (arith, sum_none n (λ i p. rests_free t (owner_at (empty_book n) i) (size_at (empty_book n) i) (empty_size n i p)));
  }

-- ---- what takes from rows keeps a book sound

module _ {b : Book} {next : ℕ} (s : SoundBook b next) (l : List ℕ) (long : length l ≡ rows) (less_each : (i : ℕ) → i < rows → at l i ≤ size_at b i) where
  held : (i : ℕ) → i < rows → 0 < at l i → 0 < size_at b i
  held i p x = omega (arith, less_each i p)

  pub shrunk_sound : SoundBook (with_sizes b l) next
  shrunk_sound = record {
    places = s.places;
    sides_long = s.sides_long;
    prices_long = s.prices_long;
    sizes_long = long;
    owners_long = s.owners_long;
    numbers_long = s.numbers_long;
    size_most = λ i p. omega (arith, less_each i p, s.size_most i p);
    row = λ i p x. let r = s.row i p (held i p x) in record {
      side_least = r.side_least;
      side_most = r.side_most;
      price_least = r.price_least;
      price_most = r.price_most;
      owner = r.owner;
      number_least = r.number_least;
      number_most = r.number_most;
    };
    apart = λ i j p p' x y. s.apart i j p p' (held i p x) (held j p' y);
    room = λ t h. omega (arith, resting_shrinks b l (λ i p. less_each i (rw s.places at p)) t, s.room t h);
  }

  -- and what was below stays below
  pub shrunk_below : {buys sells : ℕ} → Below buys sells b → Below buys sells (with_sizes b l)
  shrunk_below u i j p p' x y = u i j p p' (held i p x) (held j p' y)

module _ {b : Book} {next : ℕ} (s : SoundBook b next) where
  within_places : {i : ℕ} → i < rows → i < b.places
  within_places p = omega (arith, s.places)

  module _ (side bound q allocation : ℕ) where
    abbrev after_trade_lem : List ℕ
    after_trade_lem = table (λ i. size_at b i - traded b side bound q allocation i) b.places

    trade_less : (i : ℕ) → i < rows → at after_trade_lem i ≤ size_at b i
    trade_less i p = omega (arith, table_at (λ j. size_at b j - traded b side bound q allocation j) b.places i (within_places p))

    -- a trade keeps the book sound, and what was below stays below
    pub trade_sound : SoundBook (after_trade b side bound q allocation) next
    unfolding after_trade
    trade_sound = shrunk_sound s after_trade_lem (table_length _ b.places ∙ s.places) trade_less

    pub trade_uncrossed : {buys sells : ℕ} → Below buys sells b → Below buys sells (after_trade b side bound q allocation)
    unfolding after_trade
    trade_uncrossed = shrunk_below s after_trade_lem (table_length _ b.places ∙ s.places) trade_less

    pub trade_resting : (t : ℕ) → resting_of (after_trade b side bound q allocation) t ≤ resting_of b t
    unfolding after_trade
    trade_resting = resting_shrinks b after_trade_lem (λ i p. trade_less i (omega (arith, s.places)))

  module _ (row : ℕ) where
    pub free_less : (i : ℕ) → i < rows → at (set b.sizes row 0) i ≤ size_at b i
    free_less i p = elim (ℕ_discrete i row) [
      | yes e ↦ rw (← e) (omega (arith, get_or-set_same b.sizes i 0 0 (omega (arith, s.sizes_long))))
      | no e ↦ omega (arith, get_or-set_other b.sizes row i 0 0 e)
    ]

    -- so does a cancel
    pub free_sound : SoundBook (freed b row) next
    unfolding freed
    free_sound = shrunk_sound s (set b.sizes row 0) (length-set b.sizes row 0 ∙ s.sizes_long) free_less

    pub free_uncrossed : {buys sells : ℕ} → Below buys sells b → Below buys sells (freed b row)
    unfolding freed
    free_uncrossed = shrunk_below s (set b.sizes row 0) (length-set b.sizes row 0 ∙ s.sizes_long) free_less

  -- where no resting buy is at or above a resting sell, the book is uncrossed
  pub quiet_uncrossed : crosses b ≡ false → Uncrossed b
  unfolding crosses
  quiet_uncrossed h i j p p' x y e e' =
      omega (arith, leb-false (best_sell b) (best_bid b) h, buy_most b i (within_places p) x e, sell_least b j (within_places p') y e')

  -- soundness is kept as numbers are given
  pub later_sound : (later : ℕ) → next ≤ later → SoundBook b later
  later_sound later h = record {
    places = s.places;
    sides_long = s.sides_long;
    prices_long = s.prices_long;
    sizes_long = s.sizes_long;
    owners_long = s.owners_long;
    numbers_long = s.numbers_long;
    size_most = s.size_most;
    row = λ i p x. let r = s.row i p x in record {
      side_least = r.side_least;
      side_most = r.side_most;
      price_least = r.price_least;
      price_most = r.price_most;
      owner = r.owner;
      number_least = r.number_least;
      number_most = omega (arith, r.number_most);
    };
    apart = s.apart;
    room = s.room;
  }

-- the rows of a sound book, counted by the book's own number of places
module _ {b : Book} {next : ℕ} (sound : SoundBook b next) where
  -- each that rests is sound,
  pub row_of : (i : ℕ) → i < b.places → 0 < size_at b i → SoundRow b next i
  row_of i h = sound.row i (rw sound.places at h)

  -- and live numbers are distinct
  pub live_apart : (i j : ℕ) → i < b.places → j < b.places → 0 < size_at b i → 0 < size_at b j → number_at b i ≡ number_at b j → i ≡ j
  live_apart = rw sound.places sound.apart
