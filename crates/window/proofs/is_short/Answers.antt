-- `window::is_short` meets its contract.
use Rattle.window.specs.Window.{is_short}
use Rattle.window.proofs.is_short.Goals as goal

pub returns-then-more : goal.returns-then-more
unfolding is_short
returns-then-more c = simp c.if-more.true

pub returns-else-more : goal.returns-else-more
unfolding is_short
returns-else-more c = simp c.if-more.false
