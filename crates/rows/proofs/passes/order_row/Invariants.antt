-- What the loop of `rows::passes::order_row` keeps.
use Rattle.rows.specs.Rows.{rows, is_order}
use Rattle.units.specs.Loops.{Sought}
use Rattle.units.specs.Places.{at}
use Rattle.rows.proofs.passes.order_row.Given as goal

abbrev pub invariant-loop-i : goal.invariant-loop-i
invariant-loop-i l = Sought rows (λ j. is_order l.tenant l.number (at l.owners j) (at l.numbers j) (at l.sizes j)) l.i
