-- `rows::row::is_order` meets its contract, by whether the row rests for the tenant.
use Rattle.rows.specs.Rows.{is_order, rests_for}
use Rattle.rows.proofs.row.is_order.Goals as goal

pub returns-then-rests_for : goal.returns-then-rests_for
unfolding is_order rests_for
returns-then-rests_for c = rw (← c.rests_for.ensures, c.if-rests_for.true)

pub returns-else-rests_for : goal.returns-else-rests_for
unfolding is_order rests_for
returns-else-rests_for c = rw (← c.rests_for.ensures, c.if-rests_for.false)
