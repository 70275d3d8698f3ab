-- `rows::row::key` meets its contract, by the side.
use borrow.Author.Rules.{rules}
use borrow.Author.Tests.{eq-eqb, ne_eqb}
use Rattle.rows.specs.Rows.{key_of}
use Rattle.rows.proofs.row.key.Goals as goal

pub returns-then-side-eq-SELL : goal.returns-then-side-eq-SELL
unfolding key_of
returns-then-side-eq-SELL c = simp (eq-eqb _ _ c.if-side-eq-SELL.true)

pub returns-else-side-eq-SELL : goal.returns-else-side-eq-SELL
unfolding key_of
returns-else-side-eq-SELL c = simp (ne_eqb _ _ c.if-side-eq-SELL.false) (search rules)
