-- `store` meets its contract: the numbers passed are stored.
use Rattle.std.proofs.Common.{inl, inr, arith}
use Rattle.tape.specs.Storing.{storing_goes_on, storing_ends}
use Rattle.tape.proofs.numbers.store.Goals as goal

pub returns-then-out-to : goal.returns-then-out-to
returns-then-out-to c = storing_ends _ _ _ c.loop-v.invariant (inr (omega arith))

pub loop-v-preserved : goal.loop-v-preserved
loop-v-preserved c = storing_goes_on _ _ _ c.loop-v.invariant (omega arith)

pub returns : goal.returns
returns c = storing_ends _ _ _ c.loop-v.invariant (inl (omega arith))
