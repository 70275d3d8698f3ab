-- What the loop of `submits::main` keeps: what is written and what is at hand lie in their memory, and the program has
-- come there with the submits of the orders so far written, or has stopped with what is to be told. The measure is the
-- number of turns that are left.
use Rattle.window.specs.Program.{status_byte}
use Rattle.submits.specs.Submitting.{Submitting}
use Rattle.submits.proofs.main.Given as goal

abbrev pub invariant-loop-turns : goal.invariant-loop-turns
invariant-loop-turns l = Submitting l.place l.held l.window l.out l.at l.from l.to l.more l.told (status_byte l.status) l.turns

abbrev pub decreases-loop-turns : goal.decreases-loop-turns
decreases-loop-turns l = l.turns
