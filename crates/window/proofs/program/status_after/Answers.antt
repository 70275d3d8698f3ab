-- `window::program::status_after` meets its contract.
use Rattle.window.specs.Program.{status_after}
use Rattle.window.proofs.program.status_after.Goals as goal

pub returns-then-failed : goal.returns-then-failed
unfolding status_after
returns-then-failed c = simp c.if-failed.true

pub returns-else-failed : goal.returns-else-failed
unfolding status_after
returns-else-failed c = simp c.if-failed.false
