-- `Book::find` meets its contract, by the row of the order and by the next number.
use native.Mathlib.Omega.{arith}
use Rattle.book.specs.LookupLaws.{rests_there, is_given_out, is_never_given}
use Rattle.book.proofs.Book.find.Goals as goal

pub returns-then-row-lt-ROWS : goal.returns-then-row-lt-ROWS
returns-then-row-lt-ROWS c = rests_there _ _ _ _ _ c.order_row-row.ensures c.if-row-lt-ROWS.true

pub returns-then-from-next : goal.returns-then-from-next
returns-then-from-next c = is_given_out _ _ _ _ _ c.order_row-row.ensures c.if-row-lt-ROWS.false (omega (arith, c.from.ensures, c.if-from-next.true))

pub returns-else-from-next : goal.returns-else-from-next
returns-else-from-next c = is_never_given _ _ _ _ _ c.order_row-row.ensures c.if-row-lt-ROWS.false (omega (arith, c.from.ensures, c.if-from-next.false))
