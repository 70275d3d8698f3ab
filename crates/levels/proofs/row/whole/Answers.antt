-- `levels::row::whole` meets its contract: a share is at most the size.
use Rattle.std.proofs.Common.{le-leb}
use Rattle.std.proofs.lemmas.Bool.{lt-leb}
use Rattle.levels.specs.Levels.{whole_of}
use Rattle.levels.proofs.row.whole.Goals as goal

pub returns-then-total-q : goal.returns-then-total-q
unfolding whole_of
returns-then-total-q c = simp (le-leb _ _ (rw c.from-q.ensures at c.if-total-q.true))

pub returns-else-total-q : goal.returns-else-total-q
unfolding whole_of
returns-else-total-q c = rw (c.from-q.ensures, c.from.ensures) (simp (lt-leb _ _ (rw c.from-q.ensures at c.if-total-q.false)))
