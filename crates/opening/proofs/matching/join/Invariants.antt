-- What the loop of `opening::matching::join` keeps.
use Prim.Native.Nat.{max}
use Rattle.rows.specs.Rows.{rows}
use Rattle.units.specs.Loops.{Stored}
use Rattle.units.specs.Places.{at}
use Rattle.opening.proofs.matching.join.Given as goal

abbrev pub invariant-loop-i : goal.invariant-loop-i
invariant-loop-i l = Stored rows (λ j. max (at l.a j) (at l.b j)) l.i l.out
