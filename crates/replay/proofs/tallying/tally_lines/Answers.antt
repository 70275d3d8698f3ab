-- `replay::tallying::tally_lines` meets its contract: the lines of the tenants passed are laid out.
use Rattle.replay.specs.TallyingLaws.{tallies_start, tallies_go_on}
use Rattle.replay.proofs.tallying.tally_lines.Goals as goal

pub loop-t-init : goal.loop-t-init
loop-t-init c = tallies_start _ _ _ c.requires

pub loop-t-preserved : goal.loop-t-preserved
loop-t-preserved c = tallies_go_on _ _ _ _ _ _ c.loop-t.invariant _ _ c.loop-t-test.true c.line_of-end.ensures
