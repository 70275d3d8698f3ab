-- What the loop of `tally::turns_in_all` keeps.
use Rattle.units.specs.Units.{tenants}
use Rattle.units.specs.Loops.{Passed}
use Rattle.tally.specs.Tallies.{tally_at}
use Rattle.tally.proofs.turns_in_all.Given as goal

abbrev pub invariant-loop-t : goal.invariant-loop-t
invariant-loop-t l = Passed tenants (λ t. (tally_at l.fn.tallies t).turns) l.t-index l.sum
