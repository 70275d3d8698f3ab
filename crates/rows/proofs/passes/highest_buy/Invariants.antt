-- What the loop of `rows::passes::highest_buy` keeps.
use Rattle.rows.specs.Rows.{rows, buy_price}
use Rattle.units.specs.Loops.{Climbed}
use Rattle.units.specs.Places.{at}
use Rattle.rows.proofs.passes.highest_buy.Given as goal

abbrev pub invariant-loop-i : goal.invariant-loop-i
invariant-loop-i l = Climbed rows (λ j. buy_price (at l.sides j) (at l.prices j) (at l.sizes j)) l.i l.most
