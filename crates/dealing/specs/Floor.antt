-- What an entry meets, what is made of it, and the words by which contracts name both.
use Rattle.std.specs.Prelude.{List, ℕ, ◌+◌}
use Rattle.book.specs.Book.{Book}
use Rattle.book.specs.Lent.{book_in}
use Rattle.book.specs.declared.Book.{Book as Columns}
use Rattle.tally.specs.declared.Tally.{Tally}
use Rattle.dealing.specs.declared.Series.{Series}
use Rattle.dealing.specs.declared.Dealt.{Dealt}
use Rattle.dealing.specs.Came.{Came, came_of}
use Rattle.dealing.specs.Came as came

-- what an entry meets: the series, the tallies, the number that an order is given if it is accepted, and the book
pub record Floor : Type 0 where
  pub series : Series
  pub tallies : List Tally
  pub number : ℕ
  pub book : Book

-- what is made of it: the book and the tallies, what came of the entry, and the fill records lent
pub record Made : Type 0 where
  pub book : Book
  pub tallies : List Tally
  pub came : Came
  pub records : List ℕ

abbrev pub floor_of : Series → List Tally → ℕ → Book → Floor
floor_of series tallies number book = record { series = series; tallies = tallies; number = number; book = book }

abbrev pub made_of : Dealt → Book → List ℕ → Made
made_of r book records = record { book = book; tallies = r.tallies; came = came_of r.came; records = records }

-- an order that is accepted uses up its number
abbrev pub next_after : ℕ → Came → ℕ
next_after n (came.TurnedDown code) = n
next_after n (came.Cancelled number) = n
next_after n (came.Accepted number filled disposition fills) = n + 1

-- what the next entry meets
abbrev pub floor_after : Floor → Made → Floor
floor_after f d = floor_of f.series d.tallies (next_after f.number d.came) d.book

-- what an entry met in the book that is lent, and what was made of it
abbrev pub met : Series → List Tally → ℕ → Columns → Floor
met series tallies number book = floor_of series tallies number (book_in book)

abbrev pub made : Dealt → Columns → List ℕ → Made
made r book records = made_of r (book_in book) records
