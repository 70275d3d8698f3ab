-- `tally::count` meets its contract: what `added` ensures is what is stored.
use mathlib.Core.Path.{ap, ◌∙◌}
use native.Mathlib.Omega.{arith}
use lib.ListN.{set}
use Rattle.tally.specs.TallyLaws.{counted_is}
use Rattle.tally.proofs.count.Goals as goal

pub returns : goal.returns
returns c =
    let a = c.args in
    ap (set a.tallies a.who) c.added-u.ensures.total ∙ counted_is a.tallies a.who _ _ _ (omega arith)
