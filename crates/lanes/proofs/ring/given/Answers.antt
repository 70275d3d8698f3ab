-- `lanes::ring::given` meets its contract: each number is read at its place, or from the end on.
use native.Mathlib.Nat.{add-zero}
use Rattle.units.specs.Places.{table}
use Rattle.lanes.specs.RingLaws.{given_from}
use Rattle.lanes.proofs.ring.given.Goals as goal

pub returns : goal.returns
unfolding table
returns c =
    let a = c.args in
    cc (given_from a.ns.now a.j, add-zero c.first_of-first.result)
