-- Words for the columns of a book as a call is lent them. A contract names the book before and after the call by one
-- word each: `given`, `before` and `after` where the call may change every column, and with `_sizing` where it may
-- change the sizes alone; a column more is one name more in each word here.
use Rattle.std.specs.Prelude.{List, [], ℕ}
use Rattle.units.specs.Lent.{Column, ColumnMut, Lent, LentMut}
use Rattle.book.specs.Book.{Book, book_of}
use Rattle.book.specs.declared.Book.{Book as Columns}

-- the book that the columns are
abbrev pub book_in : Columns → Book
book_in c = book_of c.sides c.prices c.sizes c.owners c.numbers

-- the book that a call is lent, in its demands
abbrev pub given : ColumnMut → ColumnMut → ColumnMut → ColumnMut → ColumnMut → Book
given sides prices sizes owners numbers = book_of sides.now prices.now sizes.now owners.now numbers.now

abbrev pub given_sizing : Column → Column → ColumnMut → Column → Column → Book
given_sizing sides prices sizes owners numbers = book_of sides.now prices.now sizes.now owners.now numbers.now

-- the book before the call and after it, in its promises
abbrev pub before : LentMut → LentMut → LentMut → LentMut → LentMut → Book
before sides prices sizes owners numbers = given sides.entry prices.entry sizes.entry owners.entry numbers.entry

abbrev pub after : LentMut → LentMut → LentMut → LentMut → LentMut → Book
after sides prices sizes owners numbers = given sides.exit prices.exit sizes.exit owners.exit numbers.exit

abbrev pub before_sizing : Lent → Lent → LentMut → Lent → Lent → Book
before_sizing sides prices sizes owners numbers = given_sizing sides.entry prices.entry sizes.entry owners.entry numbers.entry

abbrev pub after_sizing : Lent → Lent → LentMut → Lent → Lent → Book
after_sizing sides prices sizes owners numbers = given_sizing sides.exit prices.exit sizes.exit owners.exit numbers.exit

-- where sides, prices and sizes alone are lent: so it is whatever the other columns of the book before the call hold
abbrev pub quoting : Lent → Lent → Lent → (Book → Type 0) → Type 0
quoting sides prices sizes P = (owners numbers : List ℕ) → P (book_of sides.entry.now prices.entry.now sizes.entry.now owners numbers)

-- where all columns but the owners are lent, and the owners do not count: the book before the call, of nobody
abbrev pub ownerless : Lent → Lent → Lent → Lent → Book
ownerless sides prices sizes numbers = book_of sides.entry.now prices.entry.now sizes.entry.now [] numbers.entry.now

-- where sizes, owners and numbers alone are lent, and none is changed: so it is whatever the other columns hold
abbrev pub finding : Lent → Lent → Lent → (Book → Type 0) → Type 0
finding sizes owners numbers P = (sides prices : List ℕ) → P (book_of sides prices sizes.entry.now owners.entry.now numbers.entry.now)

-- where these are lent, and the sizes to be changed: so it is of the book before and after, whatever the other columns
-- hold
abbrev pub owning : LentMut → Lent → Lent → (Book → Book → Type 0) → Type 0
owning sizes owners numbers P =
    (sides prices : List ℕ)
    → P (book_of sides prices sizes.entry.now owners.entry.now numbers.entry.now)
    (book_of sides prices sizes.exit.now owners.exit.now numbers.exit.now)

-- where sizes alone are lent: so it is of the book before and after, whatever the other columns hold
abbrev pub sizing : LentMut → (Book → Book → Type 0) → Type 0
sizing sizes P =
    (sides prices owners numbers : List ℕ) → P (book_of sides prices sizes.entry.now owners numbers) (book_of sides prices sizes.exit.now owners numbers)
