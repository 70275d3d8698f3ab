-- What fit columns give to a match, and that every sound book is fit.
use Rattle.std.specs.Prelude.{List, [], ℕ}
use Rattle.std.proofs.Common.{arith}
use Rattle.units.specs.Places.{at}
use Rattle.allocation.specs.RangeLaws.{open_most}
use Rattle.book.specs.Book.{book_of}
use Rattle.book.specs.AllocationLaws.{Distinct}
use Rattle.book.specs.Trading.{reach}
use Rattle.book.specs.Fit.{Apart}

-- no two rows that an order may trade with have one number
pub open_apart : (s bound : ℕ) (sides prices sizes numbers : List ℕ) → Apart sizes numbers → Distinct (reach (book_of sides prices sizes [] numbers) s bound)
open_apart s bound sides prices sizes numbers h i j p p' x y e = h i j p p'
    (omega (arith, open_most s bound (at sides i) (at prices i) (at sizes i)))
    (omega (arith, open_most s bound (at sides j) (at prices j) (at sizes j)))
    e
