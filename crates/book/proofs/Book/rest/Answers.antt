-- `Book::rest` meets its contract: it stores at the first free row.
use native.Mathlib.Omega.{arith}
use Rattle.book.specs.Lent.{book_in}
use Rattle.book.specs.Fit.{Whole}
use Rattle.book.specs.BookLaws.{rested_there, rested_full}
use Rattle.book.proofs.Book.rest.Goals as goal

pub returns-then-row-lt-ROWS : goal.returns-then-row-lt-ROWS
returns-then-row-lt-ROWS c = rested_there _ _ c.free_row-row.ensures _ _ _ _ _

pub returns-else-row-lt-ROWS : goal.returns-else-row-lt-ROWS
returns-else-row-lt-ROWS c =
    let long : Whole (book_in c.args.self.now) =
    record { sides_long = omega arith; prices_long = omega arith; sizes_long = omega arith; owners_long = omega arith; numbers_long = omega arith } in
    rested_full _ long _ c.free_row-row.ensures c.if-row-lt-ROWS.false _ _ _ _ _
