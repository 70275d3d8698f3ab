-- What the loop of `inscribe::main` keeps: what is written and what is at hand lie in their memory, and a run of the
-- program on a file has come there, or has stopped with the number and the line that are told. The measure is the number
-- of turns that are left.
use Rattle.window.specs.Program.{status_byte}
use Rattle.figures.specs.Inscribing.{code_of}
use Rattle.inscribe.specs.Writing.{Writing}
use Rattle.inscribe.proofs.main.Given as goal

abbrev pub invariant-loop-turns : goal.invariant-loop-turns
invariant-loop-turns l = Writing l.place l.numbers l.window l.out l.at l.from l.to l.more (code_of l.told) (status_byte l.status) l.turns

abbrev pub decreases-loop-turns : goal.decreases-loop-turns
decreases-loop-turns l = l.turns
