-- `Book::shares` meets its contract: by the class, what the edge says is what the allocation gives.
use mathlib.Core.Path.{◌∙◌}
use Rattle.book.specs.ShareLaws.{shares_by_time, shares_in_proportion}
use Rattle.allocation.specs.Shares.{portions_at}
use Rattle.book.proofs.Book.shares.Goals as goal

pub returns-then-allocation-eq-TIME : goal.returns-then-allocation-eq-TIME
unfolding portions_at
returns-then-allocation-eq-TIME c = let a = c.args in c.by_time.ensures ∙ shares_by_time a.side a.bound.0 a.q.0 a.allocation a.self.now.sides a.self.now.prices a.self.now.sizes a.self.now.numbers c.requires.fit.apart _ c.edge_of-m.ensures.at_edge _ c.in_line-line.ensures.at_edge c.if-allocation-eq-TIME.true

pub returns-else-allocation-eq-TIME : goal.returns-else-allocation-eq-TIME
unfolding portions_at
returns-else-allocation-eq-TIME c = let a = c.args in rw c.sharing-t.ensures at c.in_proportion.ensures ∙ shares_in_proportion a.side a.bound.0 a.q.0 a.allocation a.self.now.sides a.self.now.prices a.self.now.sizes a.self.now.numbers c.requires.fit.apart c.edge_of-m.result c.edge_of-m.ensures.at_edge c.if-allocation-eq-TIME.false
