-- What the loop of `rows::passes::free_row` keeps.
use lib.Dec.{eqb}
use Rattle.rows.specs.Rows.{rows}
use Rattle.units.specs.Loops.{Sought}
use Rattle.units.specs.Places.{at}
use Rattle.rows.proofs.passes.free_row.Given as goal

abbrev pub invariant-loop-i : goal.invariant-loop-i
invariant-loop-i l = Sought rows (λ j. eqb (at l.sizes j) 0) l.i
