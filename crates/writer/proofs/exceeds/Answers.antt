-- `exceeds` meets its contract: the bytes of the numbers passed, and what is left, are the room.
use Rattle.std.proofs.Common.{arith}
use Rattle.writer.specs.WriteLaws.{counting_starts, counting_exceeds, counting_goes_on}
use Rattle.writer.proofs.exceeds.Goals as goal

pub loop-v-init : goal.loop-v-init
loop-v-init c = counting_starts _ _

pub returns-then-left-bytes : goal.returns-then-left-bytes
returns-then-left-bytes c = counting_exceeds _ c.loop-v.invariant (omega arith) c.length-bytes.ensures (omega arith)

pub loop-v-preserved : goal.loop-v-preserved
loop-v-preserved c = counting_goes_on _ c.loop-v.invariant (omega arith) c.length-bytes.ensures (omega arith)
