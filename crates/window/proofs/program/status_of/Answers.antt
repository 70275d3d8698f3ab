-- `window::program::status_of` meets its contract.
use Rattle.window.specs.Program.{status_of}
use Rattle.window.proofs.program.status_of.Goals as goal

pub returns-then-well : goal.returns-then-well
unfolding status_of
returns-then-well c = simp c.if-well.true

pub returns-else-well : goal.returns-else-well
unfolding status_of
returns-else-well c = simp c.if-well.false
