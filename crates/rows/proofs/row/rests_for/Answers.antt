-- `rows::row::rests_for` meets its contract, by the size.
use Rattle.std.proofs.Common.{lt-ltb, le-ltb}
use Rattle.rows.specs.Rows.{rests_for}
use Rattle.rows.proofs.row.rests_for.Goals as goal

pub returns-then-size-gt0 : goal.returns-then-size-gt0
unfolding rests_for
returns-then-size-gt0 c = simp (lt-ltb _ _ c.if-size-gt0.true)

pub returns-else-size-gt0 : goal.returns-else-size-gt0
unfolding rests_for
returns-else-size-gt0 c = simp (le-ltb _ _ c.if-size-gt0.false)
