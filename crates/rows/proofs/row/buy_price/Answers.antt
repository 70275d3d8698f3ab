-- `rows::row::buy_price` meets its contract, test by test.
use Rattle.std.proofs.Common.{eq-eqb, ne_eqb, lt-ltb, le-ltb}
use Rattle.rows.specs.Rows.{buy_price}
use Rattle.rows.proofs.row.buy_price.Goals as goal
use Rattle.rows.proofs.row.buy_price.Goals.{else-side-eq-BUY-via-then-side-eq-BUY+else-size-gt0, else-side-eq-BUY-via-else-side-eq-BUY}

pub returns-then-size-gt0 : goal.returns-then-size-gt0
unfolding buy_price
returns-then-size-gt0 c = simp (eq-eqb _ _ c.if-side-eq-BUY.true, lt-ltb _ _ c.if-size-gt0.true)

pub returns-else-side-eq-BUY : goal.returns-else-side-eq-BUY
unfolding buy_price
returns-else-side-eq-BUY c = elim c.else-side-eq-BUY.branch [
  | else-side-eq-BUY-via-then-side-eq-BUY+else-size-gt0 w ↦ simp (eq-eqb _ _ w.if-side-eq-BUY.true, le-ltb _ _ w.if-size-gt0.false)
  | else-side-eq-BUY-via-else-side-eq-BUY w ↦ simp (ne_eqb _ _ w.if-side-eq-BUY.false)
]
