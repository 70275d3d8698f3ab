-- `rows::passes::highest_buy` meets its contract: the greatest so far is that of the rows passed.
use Rattle.std.proofs.Common.{arith}
use Rattle.rows.specs.Passes.{highest_buy}
use Rattle.units.specs.Loops.{climb_starts, climb_goes_on, climb_ends}
use Rattle.rows.proofs.passes.highest_buy.Goals as goal

pub loop-i-init : goal.loop-i-init
unfolding highest_buy
loop-i-init c = climb_starts _ _

pub loop-i-preserved : goal.loop-i-preserved
unfolding highest_buy
loop-i-preserved c =
    let next = climb_goes_on _ _ _ _ _ c.loop-i.invariant c.loop-i-test.true c.buy_price-bid.ensures in
    (next.0, omega (arith, next.1))

pub returns : goal.returns
unfolding highest_buy
returns c = climb_ends _ _ _ _ c.loop-i.invariant c.loop-i-test.false
