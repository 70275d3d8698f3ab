-- `figures::used_up` meets its contract.
use Rattle.std.proofs.Common.{ap}
use Rattle.units.specs.Tests.{pick}
use Rattle.figures.specs.Next.{Stop}
use Rattle.figures.specs.Inscribing.{used_up}
use Rattle.figures.proofs.used_up.Goals as goal

pub returns-then-more : goal.returns-then-more
unfolding used_up pick
returns-then-more c = simp c.if-more.true

pub returns-else-more : goal.returns-else-more
unfolding used_up pick
returns-else-more c = simp c.if-more.false (ap Stop c.ending.ensures)
