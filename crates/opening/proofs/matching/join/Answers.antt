-- `opening::matching::join` meets its contract: the rows passed have the greater.
use Rattle.units.specs.Loops.{store_starts, store_goes_on}
use Rattle.opening.proofs.matching.join.Goals as goal

pub loop-i-init : goal.loop-i-init
loop-i-init c = store_starts _ _

pub loop-i-preserved : goal.loop-i-preserved
loop-i-preserved c = store_goes_on _ _ _ _ _ c.loop-i.invariant c.loop-i-test.true c.max.ensures
