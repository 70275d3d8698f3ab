-- `allocation::reach::edge_among` meets its contract: at each key what is left is what better keys leave of the order.
use native.Mathlib.Omega.{arith}
use Rattle.allocation.specs.EdgeLaws.{reaching_starts, best_bounds, edge_found, reaching_goes_on, edge_past}
use Rattle.allocation.proofs.reach.edge_among.Goals as goal

pub loop-floor-init : goal.loop-floor-init
loop-floor-init c = reaching_starts _ _ _ _

pub returns-then-from-best : goal.returns-then-from-best
returns-then-from-best c = edge_found _ _ _ _ _ _ _ _ _ c.loop-floor-test.true c.loop-floor.invariant c.best_from-best.ensures.key_value c.best_from-best.ensures.total_value (rw c.from.ensures at c.if-from-best.true)

pub overflow_add-floor : goal.overflow_add-floor
overflow_add-floor c = omega (arith, c.requires.top_le_no_number, best_bounds _ _ _ _ _ _ _ _ _ c.loop-floor-test.true c.loop-floor.invariant c.best_from-best.ensures.key_value c.best_from-best.ensures.total_value)

pub loop-floor-smaller : goal.loop-floor-smaller
loop-floor-smaller c = omega (arith, best_bounds _ _ _ _ _ _ _ _ _ c.loop-floor-test.true c.loop-floor.invariant c.best_from-best.ensures.key_value c.best_from-best.ensures.total_value)

pub loop-floor-preserved : goal.loop-floor-preserved
loop-floor-preserved c = reaching_goes_on _ _ _ _ _ _ _ _ _ c.loop-floor-test.true c.loop-floor.invariant c.best_from-best.ensures.key_value c.best_from-best.ensures.total_value (rw c.from.ensures at c.if-from-best.false)

pub returns : goal.returns
returns c = edge_past _ _ _ _ _ _ _ c.loop-floor-test.false c.requires.keys_below c.loop-floor.invariant
