-- What the loop of `replay::tallying::tally_lines` keeps.
use Rattle.replay.specs.TallyingLaws.{Tallying}
use Rattle.replay.proofs.tallying.tally_lines.Given as goal

abbrev pub invariant-loop-t : goal.invariant-loop-t
invariant-loop-t l = Tallying l.initial.out l.at l.s l.t l.out l.end
