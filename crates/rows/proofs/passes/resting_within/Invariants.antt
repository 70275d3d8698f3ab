-- What the loop of `rows::passes::resting_within` keeps.
use Prim.Native.Nat.{◌*◌, ◌≤◌}
use Rattle.rows.specs.Rows.{rows, open_size}
use Rattle.units.specs.Loops.{Passed}
use Rattle.units.specs.Places.{at}
use Rattle.units.specs.Units.{most32}
use Rattle.rows.proofs.passes.resting_within.Given as goal

abbrev pub invariant-loop-i : goal.invariant-loop-i
invariant-loop-i l = Passed rows (λ j. open_size l.side l.bound.0 (at l.sides j) (at l.prices j) (at l.sizes j)) l.i l.sum × (l.sum ≤ l.i * most32)
