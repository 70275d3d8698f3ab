-- `judge::disposition::at_away` meets its contract, test by test.
use Rattle.std.proofs.Common.{arith}
use Rattle.std.proofs.lemmas.Grind.{common_steps}
use Rattle.units.specs.Tests.{◌and◌, ◌or◌}
use Rattle.judge.specs.Disposition.{at_away}
use Rattle.judge.proofs.disposition.at_away.Goals as goal

pub returns-then-q-e : goal.returns-then-q-e
unfolding at_away ◌and◌ ◌or◌
returns-then-q-e c = grind (arith, common_steps)

pub returns-then-q-gt0-2 : goal.returns-then-q-gt0-2
unfolding at_away ◌and◌ ◌or◌
returns-then-q-gt0-2 c = grind (arith, common_steps)

pub returns-else-q-gt0-2 : goal.returns-else-q-gt0-2
unfolding at_away ◌and◌ ◌or◌
returns-else-q-gt0-2 c = grind (arith, common_steps)
