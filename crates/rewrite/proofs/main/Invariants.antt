-- What the loop of `rewrite::main` keeps: the bytes at hand lie in the window and those to write in the output. The
-- measure is the number of turns that are left.
use Rattle.rewrite.specs.Rewriting.{Copying}
use Rattle.rewrite.proofs.main.Given as goal

abbrev pub invariant-loop-turns : goal.invariant-loop-turns
invariant-loop-turns l = Copying l.window l.out l.at l.from l.to

abbrev pub decreases-loop-turns : goal.decreases-loop-turns
decreases-loop-turns l = l.turns
