-- `levels::row::precedes` meets its contract, by how a and b stand to one another.
use borrow.Author.Tests.{lt-ltb, le-ltb, eq-eqb, ne_eqb}
use Rattle.units.specs.Picked.{precedes}
use Rattle.levels.proofs.row.precedes.Goals as goal

pub returns-then-a-b : goal.returns-then-a-b
unfolding precedes
returns-then-a-b c = simp (lt-ltb _ _ c.if-a-b.true)

pub returns-then-a-b-2 : goal.returns-then-a-b-2
unfolding precedes
returns-then-a-b-2 c = simp (le-ltb _ _ c.if-a-b.false, eq-eqb _ _ c.if-a-b-2.true)

pub returns-else-a-b-2 : goal.returns-else-a-b-2
unfolding precedes
returns-else-a-b-2 c = simp (le-ltb _ _ c.if-a-b.false, ne_eqb _ _ c.if-a-b-2.false)
