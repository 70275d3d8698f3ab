-- `Book::free` meets its contract: it stores at the row, or there is no such row.
use native.Mathlib.Omega.{arith}
use Rattle.book.specs.Book.{freed}
use Rattle.book.specs.BookLaws.{freed_past}
use Rattle.book.proofs.Book.free.Goals as goal

pub returns-then-row-lt-ROWS : goal.returns-then-row-lt-ROWS
unfolding freed
returns-then-row-lt-ROWS c = cc

pub returns-else-row-lt-ROWS : goal.returns-else-row-lt-ROWS
unfolding freed
returns-else-row-lt-ROWS c = freed_past _ _ (omega arith) c.if-row-lt-ROWS.false
