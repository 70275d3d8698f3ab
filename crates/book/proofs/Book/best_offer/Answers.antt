-- `Book::best_offer` meets its contract, by whether there is an offer.
use borrow.Author.Tests.{le-leb, lt-leb}
use Rattle.book.specs.Book.{best_offer}
use Rattle.book.proofs.Book.best_offer.Goals as goal

pub returns-then-low-le-HIGHEST : goal.returns-then-low-le-HIGHEST
unfolding best_offer
returns-then-low-le-HIGHEST c = rw (← c.lowest_sell-low.ensures) (simp (le-leb _ _ c.if-low-le-HIGHEST.true))

pub returns-else-low-le-HIGHEST : goal.returns-else-low-le-HIGHEST
unfolding best_offer
returns-else-low-le-HIGHEST c = rw (← c.lowest_sell-low.ensures) (simp (lt-leb _ _ c.if-low-le-HIGHEST.false))
