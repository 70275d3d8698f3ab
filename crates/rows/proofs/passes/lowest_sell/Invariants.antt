-- What the loop of `rows::passes::lowest_sell` keeps.
use Rattle.rows.specs.Rows.{rows, no_price, sell_price}
use Rattle.units.specs.Loops.{Searched}
use Rattle.units.specs.Places.{at}
use Rattle.rows.proofs.passes.lowest_sell.Given as goal

abbrev pub invariant-loop-i : goal.invariant-loop-i
invariant-loop-i l = Searched rows no_price (λ j. sell_price (at l.sides j) (at l.prices j) (at l.sizes j)) l.i l.least
