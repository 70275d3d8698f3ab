-- `opening::cancels::cancel` meets its contract: the rows passed have what the cancels leave of them, told by what
-- stood at the start.
use Rattle.units.specs.Loops.{replace_ends}
use Rattle.opening.proofs.cancels.cancel.Goals as goal

pub returns : goal.returns
returns c = rw c.cut_at-cut.ensures at (replace_ends _ _ _ _ _ c.loop-i.invariant c.loop-i-test.false)
