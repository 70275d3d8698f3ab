-- `rows::passes::resting_within` meets its contract: the sum so far is that of the rows passed, and each of them adds
-- at most what 32 bits hold.
use mathlib.Core.Path.{◌∙◌}
use native.Mathlib.Omega.{arith}
use Rattle.rows.specs.Passes.{resting_within}
use Rattle.units.specs.Loops.{sum_starts, sum_goes_on, sum_ends}
use Rattle.rows.proofs.passes.resting_within.Goals as goal

pub loop-i-init : goal.loop-i-init
unfolding resting_within
loop-i-init c = (sum_starts _ _, omega arith)

pub loop-i-preserved : goal.loop-i-preserved
unfolding resting_within
loop-i-preserved c = (sum_goes_on _ _ _ _ _ c.loop-i.invariant.0 c.loop-i-test.true (c.from-sum.ensures ∙ c.open_size-tradable.ensures), omega arith)

pub returns : goal.returns
unfolding resting_within
returns c = sum_ends _ _ _ _ c.loop-i.invariant.0 c.loop-i-test.false
