-- `Book::crosses` meets its contract, by the two best prices.
use mathlib.Core.Path.{ap}
use borrow.Author.Rules.{rules}
use Rattle.units.specs.declared.Cents.{Cents}
use Rattle.book.specs.Book.{crosses}
use Rattle.book.proofs.Book.crosses.Goals as goal

pub returns : goal.returns
unfolding crosses
returns c = rw (← c.lowest_sell-low.ensures, ← (ap (λ (b : Cents). b.0) c.best_bid-high.ensures)) (search rules)
