-- `rows::row::sell_price` meets its contract, test by test.
use Rattle.std.proofs.Common.{eq-eqb, ne_eqb, lt-ltb, le-ltb}
use Rattle.rows.specs.Rows.{sell_price}
use Rattle.rows.proofs.row.sell_price.Goals as goal
use Rattle.rows.proofs.row.sell_price.Goals.{else-side-eq-SELL-via-then-side-eq-SELL+else-size-gt0, else-side-eq-SELL-via-else-side-eq-SELL}

pub returns-then-size-gt0 : goal.returns-then-size-gt0
unfolding sell_price
returns-then-size-gt0 c = simp (eq-eqb _ _ c.if-side-eq-SELL.true, lt-ltb _ _ c.if-size-gt0.true)

pub returns-else-side-eq-SELL : goal.returns-else-side-eq-SELL
unfolding sell_price
returns-else-side-eq-SELL c = elim c.else-side-eq-SELL.branch [
  | else-side-eq-SELL-via-then-side-eq-SELL+else-size-gt0 w ↦ simp (eq-eqb _ _ w.if-side-eq-SELL.true, le-ltb _ _ w.if-size-gt0.false)
  | else-side-eq-SELL-via-else-side-eq-SELL w ↦ simp (ne_eqb _ _ w.if-side-eq-SELL.false)
]
