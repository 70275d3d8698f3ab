-- `judge::disposition::disposition` meets its contract, test by test.
use Rattle.std.proofs.Common.{arith}
use Rattle.std.proofs.lemmas.Grind.{common_steps}
use Rattle.units.specs.Tests.{◌or◌, pick}
use Rattle.judge.specs.Disposition.{disposition_of}
use Rattle.judge.proofs.disposition.disposition.Goals as goal

pub returns-then-left-eq0 : goal.returns-then-left-eq0
unfolding disposition_of ◌or◌ pick
returns-then-left-eq0 c = grind (arith, common_steps)

pub returns-then-e-eq-NOW : goal.returns-then-e-eq-NOW
unfolding disposition_of ◌or◌ pick
returns-then-e-eq-NOW c = grind (arith, common_steps)

pub returns-then-beyond_drill : goal.returns-then-beyond_drill
unfolding disposition_of ◌or◌ pick
returns-then-beyond_drill c = grind (arith, common_steps)

pub returns-then-at_away : goal.returns-then-at_away
unfolding disposition_of ◌or◌ pick
returns-then-at_away c = grind (arith, common_steps)

pub returns-else-at_away : goal.returns-else-at_away
unfolding disposition_of ◌or◌ pick
returns-else-at_away c = grind (arith, common_steps)
