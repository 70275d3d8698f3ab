-- `submits::put` meets its contract: the submit of an order is one event, and there is room for it.
use Rattle.std.proofs.Common.{arith}
use Rattle.submits.specs.SendingLaws.{put_fits, put_lays, put_taken}
use Rattle.submits.proofs.put.Goals as goal

pub unwrap-used-requires : goal.unwrap-used-requires
unwrap-used-requires c = put_taken c.args.order c.args.out.now c.args.at c.requires c.write.ensures.answer c.write.ensures.bytes

pub overflow_add-result : goal.overflow_add-result
overflow_add-result c = omega (arith, put_fits c.args.order c.args.out.now c.args.at c.requires c.write.ensures.answer c.write.ensures.bytes c.unwrap-used.ensures)

pub returns : goal.returns
returns c = put_lays c.args.order c.args.out.now c.args.at c.requires c.write.ensures.answer c.write.ensures.bytes c.unwrap-used.ensures
