-- `lay` meets its contract: the bytes of the numbers passed stand in the memory.
use Rattle.std.proofs.Common.{◌+◌, arith}
use Rattle.writer.specs.WriteLaws.{laying_starts, laying_goes_on, laying_ends, passed_next, passed_within}
use Rattle.writer.proofs.lay.Goals as goal

pub loop-v-init : goal.loop-v-init
loop-v-init c = laying_starts _ _

pub overflow_add-at : goal.overflow_add-at
overflow_add-at c =
    let ns = c.args.numbers.now in
    omega (arith, c.loop-v.invariant.end, c.write-at.ensures.count, passed_next ns c.loop-v.v-index (omega arith), passed_within ns (c.loop-v.v-index + 1), c.requires)

pub loop-v-preserved : goal.loop-v-preserved
loop-v-preserved c = laying_goes_on _ c.loop-v.invariant (omega arith) c.write-at.ensures.bytes c.write-at.ensures.count

pub returns : goal.returns
returns c =
    let e = laying_ends _ c.loop-v.invariant (omega arith) in
    record { bytes = e.0; count = e.1 }
