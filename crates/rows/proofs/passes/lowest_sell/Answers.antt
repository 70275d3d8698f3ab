-- `rows::passes::lowest_sell` meets its contract: the least so far is that of the rows passed.
use Rattle.std.proofs.Common.{arith}
use Rattle.rows.specs.Passes.{lowest_sell}
use Rattle.units.specs.Loops.{least_starts, least_goes_on, least_ends}
use Rattle.rows.proofs.passes.lowest_sell.Goals as goal

pub loop-i-init : goal.loop-i-init
unfolding lowest_sell
loop-i-init c = least_starts _ _ _

pub loop-i-preserved : goal.loop-i-preserved
unfolding lowest_sell
loop-i-preserved c =
    let next = least_goes_on _ _ _ _ _ _ c.loop-i.invariant c.loop-i-test.true c.sell_price-offer.ensures in
    (next.0, omega (arith, next.1))

pub returns : goal.returns
unfolding lowest_sell
returns c = least_ends _ _ _ _ _ c.loop-i.invariant c.loop-i-test.false
