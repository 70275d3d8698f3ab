-- `tally::turns_in_all` meets its contract: the sum so far is that of the tenants passed.
use mathlib.Core.Path.{refl}
use Prim.Native.Nat.{◌+◌}
use native.Mathlib.Omega.{arith}
use Rattle.units.specs.Units.{tenants}
use Rattle.units.specs.Sums.{sum_next, sum_grows}
use Rattle.units.specs.Loops.{sum_starts, sum_goes_on}
use Rattle.tally.specs.Tallies.{tally_at}
use Rattle.tally.proofs.turns_in_all.Goals as goal

pub loop-t-init : goal.loop-t-init
loop-t-init c = sum_starts tenants _

pub overflow_add-sum : goal.overflow_add-sum
overflow_add-sum c =
    let l = c.loop-t in
    let xs = c.args.tallies in
    omega (arith, sum_next (λ t. (tally_at xs t).turns) l.t-index, sum_grows (λ t. (tally_at xs t).turns) (l.t-index + 1) tenants (omega arith))

pub loop-t-preserved : goal.loop-t-preserved
loop-t-preserved c = sum_goes_on tenants _ _ _ _ c.loop-t.invariant c.loop-t-test.true refl
