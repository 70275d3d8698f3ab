-- What the loop of `tape::several::read_several` keeps.
use Rattle.std.proofs.Common.{◌≡◌, ◌-◌, length}
use Rattle.tape.specs.Tape.{stored}
use Rattle.tape.specs.Several.{several_at, values_at, Stored}
use Rattle.tape.proofs.several.read_several.Given as goal

abbrev pub invariant-loop-i : goal.invariant-loop-i
invariant-loop-i l = (length l.out ≡ length l.initial.out) × (several_at l.n l.s l.at ≡ several_at (l.n - l.i) l.s l.next) × (stored (values_at l.n l.s l.at) l.initial.out ≡ Stored l.n l.i l.s l.next l.out)
