-- `one_submit` meets its contract: too few numbers, or by the count.
use Rattle.std.proofs.Common.{sym, ◌∙◌, arith}
use Rattle.tape.specs.OneLaws.{submit_short, submit_outside, submit_counted}
use Rattle.tape.proofs.one.one_submit.Goals as goal

pub returns-then-numbers-lt3 : goal.returns-then-numbers-lt3
returns-then-numbers-lt3 c = submit_short c.args.numbers.now (omega arith)

pub returns-then-in_bulk : goal.returns-then-in_bulk
returns-then-in_bulk c = submit_counted c.args.numbers.now (omega arith) (sym c.in_bulk.ensures ∙ c.if-in_bulk.true)

pub returns-else-in_bulk : goal.returns-else-in_bulk
returns-else-in_bulk c = c.if-in_bulk.false ∙ submit_outside c.args.numbers.now (omega arith) (sym c.in_bulk.ensures ∙ c.if-in_bulk.false)
