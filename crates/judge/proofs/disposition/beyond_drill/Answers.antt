-- `judge::disposition::beyond_drill` meets its contract, test by test.
use Rattle.std.proofs.Common.{arith}
use Rattle.std.proofs.lemmas.Grind.{common_steps}
use Rattle.units.specs.Tests.{◌and◌, ◌or◌}
use Rattle.judge.specs.Disposition.{beyond_drill}
use Rattle.judge.proofs.disposition.beyond_drill.Goals as goal

pub returns-then-plus-wide : goal.returns-then-plus-wide
unfolding beyond_drill ◌and◌ ◌or◌
returns-then-plus-wide c = grind (arith, common_steps)

pub returns-then-q-gt0-2 : goal.returns-then-q-gt0-2
unfolding beyond_drill ◌and◌ ◌or◌
returns-then-q-gt0-2 c = grind (arith, common_steps)

pub returns-else-q-gt0-2 : goal.returns-else-q-gt0-2
unfolding beyond_drill ◌and◌ ◌or◌
returns-else-q-gt0-2 c = grind (arith, common_steps)
