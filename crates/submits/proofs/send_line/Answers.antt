-- `submits::send_line` meets its contract, by what the step gives.
use Rattle.std.proofs.Common.{sym}
use Rattle.submits.specs.SendingLaws.{sends_more, sends_order, sends_refused}
use Rattle.submits.proofs.send_line.Goals as goal

pub returns-in-Ok-More : goal.returns-in-Ok-More
returns-in-Ok-More c = rw (c.in-Ok-More.ensures.kept, c.in-Ok-More.field-0-is) (sends_more _ _ _ _ _ _ c.requires (sym (rw c.in-Ok-More.field-0-is at c.in-Ok-More.ensures.answer)))

pub returns-in-Ok-Order : goal.returns-in-Ok-Order
returns-in-Ok-Order c = rw (c.in-Ok-Order.ensures.kept, c.in-Ok-Order.field-0-is) (sends_order _ _ _ _ _ _ c.requires (sym (rw c.in-Ok-Order.field-0-is at c.in-Ok-Order.ensures.answer)) (rw c.in-Ok-Order.field-0-is at c.put.ensures))

pub returns-in-Err : goal.returns-in-Err
returns-in-Err c = rw c.in-Err.ensures.kept (sends_refused _ _ _ _ _ _ c.requires (sym c.in-Err.ensures.answer))
