-- `allocation::gather::in_reach` meets its contract: the rows passed are gathered.
use native.Mathlib.Omega.{arith}
use Rattle.allocation.specs.GatheringLaws.{gather_starts, gather_goes_on}
use Rattle.allocation.specs.RangeLaws.{open_whole}
use Rattle.allocation.proofs.gather.in_reach.Goals as goal

pub loop-i-init : goal.loop-i-init
loop-i-init c = gather_starts _ _ _ _ (omega arith) (omega arith)

pub loop-i-preserved : goal.loop-i-preserved
loop-i-preserved c = gather_goes_on _ _ _ _ _ _ _ _ _ _ _ _ c.loop-i.invariant c.loop-i-test.true c.reachable-taken.ensures c.key.ensures (open_whole _ _ _ _ _) c.put_after-count.ensures.keys_after c.put_after-count.ensures.held_after c.put_after-count.ensures.value
