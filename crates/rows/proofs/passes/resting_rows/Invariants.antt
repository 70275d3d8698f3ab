-- What the loop of `rows::passes::resting_rows` keeps.
use Prim.Native.Nat.{◌≤◌}
use Rattle.rows.specs.Rows.{rows, rests_for}
use Rattle.units.specs.Loops.{Passed}
use Rattle.units.specs.Picked.{keep}
use Rattle.units.specs.Places.{at}
use Rattle.rows.proofs.passes.resting_rows.Given as goal

abbrev pub invariant-loop-i : goal.invariant-loop-i
invariant-loop-i l = Passed rows (λ j. keep (rests_for l.tenant (at l.owners j) (at l.sizes j)) 1) l.i l.count × (l.count ≤ l.i)
