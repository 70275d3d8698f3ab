-- What the loop of `sheet::step` keeps.
use Rattle.sheet.specs.ReadingLaws.{Reading}
use Rattle.sheet.proofs.step.Given as goal

abbrev pub invariant-loop-i : goal.invariant-loop-i
invariant-loop-i l = Reading l.part l.from l.fn.place l.initial.held l.held l.count l.i
