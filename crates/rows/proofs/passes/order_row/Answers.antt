-- `rows::passes::order_row` meets its contract: no row passed is the order.
use Rattle.std.proofs.Common.{◌≡◌, sym, ◌∙◌, arith}
use Rattle.rows.specs.Passes.{order_row}
use Rattle.units.specs.Loops.{seek_finds, seek_ends}
use Rattle.rows.proofs.passes.order_row.Goals as goal

pub returns-then-is_order : goal.returns-then-is_order
unfolding order_row
returns-then-is_order c = seek_finds _ _ _ c.loop-i.invariant c.loop-i-test.true (sym c.is_order.ensures ∙ c.if-is_order.true)

pub returns : goal.returns
unfolding order_row
returns c =
    let last : 216 ≡ c.loop-i.i = omega (arith, c.loop-i.invariant.0, c.loop-i-test.false) in
    last ∙ seek_ends _ _ _ c.loop-i.invariant c.loop-i-test.false
