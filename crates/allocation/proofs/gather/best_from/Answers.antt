-- `allocation::gather::best_from` meets its contract: the best key so far, and what is held there, are those of the
-- places passed.
use Rattle.allocation.specs.BestLaws.{best_starts, best_goes_on}
use Rattle.allocation.proofs.gather.best_from.Goals as goal

pub loop-j-init : goal.loop-j-init
loop-j-init c = best_starts _ _ _ _ _ c.requires.floor_le_top

pub loop-j-preserved : goal.loop-j-preserved
loop-j-preserved c = best_goes_on _ _ _ _ _ c.requires.floor_le_top _ _ _ _ _ c.loop-j.invariant (rw c.from.ensures at c.joined-best.ensures.joined) c.loop-j-test.true c.joined-best.ensures.size_le_most32
