-- `window::program::flush` meets its contract: no write stops a program by what it read.
use Rattle.window.specs.Program.{goes_or_failed}
use Rattle.window.proofs.program.flush.Goals as goal

pub returns : goal.returns
returns c = goes_or_failed _ c.status_after.ensures
