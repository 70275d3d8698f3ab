-- `rows::row::within` meets its contract, by the side.
use borrow.Author.Tests.{eq-eqb, ne_eqb}
use Rattle.rows.specs.Rows.{within}
use Rattle.rows.proofs.row.within.Goals as goal

pub returns-then-side-eq-SELL : goal.returns-then-side-eq-SELL
unfolding within
returns-then-side-eq-SELL c = simp (eq-eqb _ _ c.if-side-eq-SELL.true)

pub returns-else-side-eq-SELL : goal.returns-else-side-eq-SELL
unfolding within
returns-else-side-eq-SELL c = simp (ne_eqb _ _ c.if-side-eq-SELL.false)
