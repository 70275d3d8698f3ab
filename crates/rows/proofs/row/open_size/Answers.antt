-- `rows::row::open_size` meets its contract, by the two tests.
use Rattle.std.proofs.Common.{eq-eqb, ne_eqb}
use Rattle.rows.specs.Rows.{open_size}
use Rattle.rows.proofs.row.open_size.Goals as goal
use Rattle.rows.proofs.row.open_size.Goals.{else-row_side-side-via-then-row_side-side+else-within, else-row_side-side-via-else-row_side-side}

pub returns-then-within : goal.returns-then-within
unfolding open_size
returns-then-within c = rw (← c.within.ensures) (simp (eq-eqb _ _ c.if-row_side-side.true, c.if-within.true))

pub returns-else-row_side-side : goal.returns-else-row_side-side
unfolding open_size
returns-else-row_side-side c = elim c.else-row_side-side.branch [
  | else-row_side-side-via-then-row_side-side+else-within w ↦
      rw (← w.within.ensures) (simp (eq-eqb _ _ w.if-row_side-side.true, w.if-within.false))
  | else-row_side-side-via-else-row_side-side w ↦ simp (ne_eqb _ _ w.if-row_side-side.false)
]
