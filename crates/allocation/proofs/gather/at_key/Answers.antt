-- `allocation::gather::at_key` meets its contract: the orders of the rows passed are gathered.
use native.Mathlib.Omega.{arith}
use mathlib.Core.Path.{refl, ap}
use lib.Dec.{ltb}
use Rattle.allocation.specs.GatheringLaws.{gather_starts, gather_goes_on}
use Rattle.units.specs.Picked.{same_term}
use Rattle.allocation.proofs.gather.at_key.Goals as goal

pub loop-i-init : goal.loop-i-init
loop-i-init c = gather_starts _ _ _ _ (omega arith) (omega arith)

pub loop-i-preserved : goal.loop-i-preserved
loop-i-preserved c = let e = same_term _ _ _ _ c.tradable_at-size.ensures in gather_goes_on _ _ _ _ _ _ _ _ _ _ _ _ c.loop-i.invariant c.loop-i-test.true (ap (ltb 0) e) refl (λ _. e) c.put_after-count.ensures.keys_after c.put_after-count.ensures.held_after c.put_after-count.ensures.value
