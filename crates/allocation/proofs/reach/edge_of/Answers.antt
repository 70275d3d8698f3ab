-- `allocation::reach::edge_of` meets its contract: an order that takes all has its edge past every price.
use native.Mathlib.Omega.{arith}
use Rattle.allocation.specs.RangeLaws.{keys_below}
use Rattle.allocation.specs.EdgeLaws.{edge_of_all}
use Rattle.rows.specs.Passes.{resting_within}
use Rattle.allocation.proofs.reach.edge_of.Goals as goal

pub returns-then-all-from : goal.returns-then-all-from
unfolding resting_within
returns-then-all-from c =
    let a = c.args in
    edge_of_all _ _ _ _ _ _ (keys_below a.side a.bound.0 a.sides.now a.prices.now a.sizes.now c.requires.priced) c.requires.all_value (omega (arith, c.from.ensures))
