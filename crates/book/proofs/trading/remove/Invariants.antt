-- What the loop of `book::trading::remove` keeps.
use Prim.Native.Nat.{◌-◌}
use Rattle.rows.specs.Rows.{rows}
use Rattle.units.specs.Loops.{Replaced}
use Rattle.units.specs.Places.{at}
use Rattle.book.proofs.trading.remove.Given as goal

abbrev pub invariant-loop-i : goal.invariant-loop-i
invariant-loop-i l = Replaced rows (λ j. at l.initial.sizes j - at l.quantities j) l.initial.sizes l.i l.sizes
