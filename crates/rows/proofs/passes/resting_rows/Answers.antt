-- `rows::passes::resting_rows` meets its contract: the count so far is that of the rows passed.
use Rattle.std.proofs.Common.{ap, ◌∙◌, arith}
use Rattle.rows.specs.Passes.{resting_rows}
use Rattle.rows.specs.RowLaws.{from_keeps}
use Rattle.units.specs.Loops.{sum_starts, sum_goes_on, sum_ends}
use Rattle.units.specs.Picked.{keep, keep_most}
use Rattle.rows.proofs.passes.resting_rows.Goals as goal

pub loop-i-init : goal.loop-i-init
unfolding resting_rows
loop-i-init c = (sum_starts _ _, omega arith)

pub loop-i-preserved : goal.loop-i-preserved
unfolding resting_rows
loop-i-preserved c =
    let one = c.from-count.ensures ∙ from_keeps c.rests_for.result in
    let counts = one ∙ ap (λ t. keep t 1) c.rests_for.ensures in
    let most = keep_most c.rests_for.result 1 in
    (sum_goes_on _ _ _ _ _ c.loop-i.invariant.0 c.loop-i-test.true counts, omega (arith, one, most))

pub returns : goal.returns
unfolding resting_rows
returns c = sum_ends _ _ _ _ c.loop-i.invariant.0 c.loop-i-test.false
