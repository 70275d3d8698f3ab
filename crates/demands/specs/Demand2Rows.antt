-- Demand 2's rows, as statements: what a turn leaves in each row of the book, in the next number and in the fill
-- records. The proofs stand in Demand2RowsProof.
use Rattle.std.specs.Prelude.{◌≡◌, true, false, List, ℕ, ◌+◌, ◌-◌, ◌*◌, ◌<◌, length}
use Rattle.book.specs.Book.{Book, side_at, price_at, size_at, owner_at, number_at}
use Rattle.book.specs.Records.{fields}
use Rattle.session.specs.Market.{Market}
use Rattle.session.specs.Sound.{Sound}
use Rattle.session.specs.Turn.{turned_down_by, cancelled_as, turn_of}
use Rattle.session.specs.Open.{opened_at, open_of}
use Rattle.demands.specs.Demand2.{turn_printed, open_printed, OrderAccepted, RestsAs, judged, trades}

-- ---- rows

-- what row i holds
pub record RowIs (b : Book) (i side price size tenant number : ℕ) : Type 0 where
  pub side_is : side_at b i ≡ side
  pub price_is : price_at b i ≡ price
  pub size_is : size_at b i ≡ size
  pub tenant_is : owner_at b i ≡ tenant
  pub number_is : number_at b i ≡ number

-- row i is as it was in every column but its size, which is now this
abbrev pub KeptAt : Book → ℕ → ℕ → Book → Type 0
KeptAt b i size after = RowIs after i (side_at b i) (price_at b i) size (owner_at b i) (number_at b i)

-- every row is so, each with its own size
abbrev pub RowsKept : Book → (ℕ → ℕ) → Book → Type 0
RowsKept b sizes after = (i : ℕ) → i < b.places → KeptAt b i (sizes i) after

-- an order has come to rest: a row that was free holds it, and every other row is as it was but for its size
pub record ComesToRest (b : Book) (sizes : ℕ → ℕ) (side price size tenant number : ℕ) (after : Book) : Type 0 where
  pub row : ℕ
  pub place : row < b.places
  pub free : sizes row ≡ 0
  pub holds : RowIs after row side price size tenant number
  pub others : (i : ℕ) → i < b.places → (i ≡ row → ⊥) → KeptAt b i (sizes i) after

-- the row of a resting order is free, and every other row is as it was
pub record RowFreed (b : Book) (tenant number : ℕ) (after : Book) : Type 0 where
  pub row : ℕ
  pub rested : RestsAs b tenant number row
  pub free : KeptAt b row 0 after
  pub others : (i : ℕ) → i < b.places → (i ≡ row → ⊥) → KeptAt b i (size_at b i) after

-- what the rows are left with once an order of tenant t has traded: what each held less what it traded
abbrev pub untraded : Market → ℕ → ℕ → ℕ
untraded m t i = size_at m.book i - trades m t i

-- ---- every turn

module _ (m : Market) (lent : ℕ) (was : List ℕ) where
  -- the book and the next number that a turn leaves
  abbrev pub book_then : Book
  book_then = (turn_of m lent was).market.book

  abbrev pub next_then : ℕ
  next_then = (turn_of m lent was).market.session.next

  -- no order is accepted: the turn is refused, or its entry is turned down or a cancel
  abbrev pub NoOrder : Type 0
  NoOrder = (t number filled disposition : ℕ) → OrderAccepted (turn_printed m lent was) t number filled disposition → ⊥

-- the fill records lent, four numbers for each row of the book
abbrev pub WellLent : Market → List ℕ → Type 0
WellLent m was = length was ≡ fields * m.book.places

-- What rests, what a cancel frees, and what stays as it is.
pub record RowsRight : Type 0 where
  -- before the opening an accepted order rests whole, at its limit, in a row that was free
  pub rests_shut : (m : Market) (lent : ℕ) (was : List ℕ) (t number filled disposition : ℕ) → Sound m → m.session.opened ≡ false
      → OrderAccepted (turn_printed m lent was) t number filled disposition
      → ComesToRest m.book (size_at m.book) (judged m t).side (judged m t).price.0 (judged m t).size.0 t number (book_then m lent was)
  -- once open, what is left of an order with disposition 1 does so, in a row that is free once its trades are taken off
  pub rests_open : (m : Market) (lent : ℕ) (was : List ℕ) (t number filled : ℕ) → Sound m → m.session.opened ≡ true
      → OrderAccepted (turn_printed m lent was) t number filled 1
      → ComesToRest m.book (untraded m t) (judged m t).side (judged m t).price.0 ((judged m t).size.0 - filled) t number (book_then m lent was)
  -- with any other disposition nothing of it does, and every row is as it was but for what it traded
  pub rests_not : (m : Market) (lent : ℕ) (was : List ℕ) (t number filled disposition : ℕ) → m.session.opened ≡ true
      → OrderAccepted (turn_printed m lent was) t number filled disposition → (disposition ≡ 1 → ⊥)
      → RowsKept m.book (untraded m t) (book_then m lent was)
  -- an accepted cancel frees the row of its order, and an entry turned down leaves the book
  pub frees : (m : Market) (lent : ℕ) (was : List ℕ) (t number : ℕ) → Sound m → turn_printed m lent was ≡ cancelled_as t number
      → RowFreed m.book t number (book_then m lent was)
  pub leaves : (m : Market) (lent : ℕ) (was : List ℕ) (t code : ℕ) → 0 < code → turn_printed m lent was ≡ turned_down_by t code
      → book_then m lent was ≡ m.book
  -- the next number goes to each accepted new order, and is the same after any other turn
  pub numbered : (m : Market) (lent : ℕ) (was : List ℕ) (t number filled disposition : ℕ)
      → OrderAccepted (turn_printed m lent was) t number filled disposition
      → (number ≡ m.session.next) × (next_then m lent was ≡ m.session.next + 1)
  pub not_numbered : (m : Market) (lent : ℕ) (was : List ℕ) → NoOrder m lent was → next_then m lent was ≡ m.session.next
  -- the fill records are as found where nothing traded: no order was accepted, or one of which nothing is filled
  pub no_records : (m : Market) (lent : ℕ) (was : List ℕ) → NoOrder m lent was → (turn_of m lent was).records ≡ was
  pub none_filled : (m : Market) (lent : ℕ) (was : List ℕ) (t number disposition : ℕ) → Sound m → WellLent m was
      → OrderAccepted (turn_printed m lent was) t number 0 disposition → (turn_of m lent was).records ≡ was
  -- and so they are after an opening with volume 0
  pub none_matched : (m : Market) (lent : ℕ) (was : List ℕ) (price : ℕ) → Sound m → WellLent m was
      → open_printed m lent was ≡ opened_at price 0 → (open_of m lent was).records ≡ was
