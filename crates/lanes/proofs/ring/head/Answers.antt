-- `lanes::ring::head` meets its contract: the oldest entry stands nothing behind the head.
use Rattle.lanes.specs.Ring.{waiting_at}
use Rattle.lanes.proofs.ring.head.Goals as goal

pub returns : goal.returns
unfolding waiting_at
returns c = cc
