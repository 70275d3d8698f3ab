-- What the loop of `opening::cancels::cancel` keeps.
use Rattle.opening.specs.Opening.{kept_by}
use Rattle.rows.specs.Rows.{rows}
use Rattle.units.specs.Loops.{Replaced}
use Rattle.units.specs.Places.{at}
use Rattle.opening.proofs.cancels.cancel.Given as goal

abbrev pub invariant-loop-i : goal.invariant-loop-i
invariant-loop-i l = Replaced rows (λ j. kept_by l.cut (at l.sides j) (at l.prices j) (at l.initial.sizes j)) l.initial.sizes l.i l.sizes
