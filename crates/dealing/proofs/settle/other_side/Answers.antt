-- `dealing::settle::other_side` meets its contract, by the side.
use borrow.Author.Tests.{eq-eqb, ne_eqb}
use Rattle.units.specs.Tests.{pick}
use Rattle.dealing.proofs.settle.other_side.Goals as goal

pub returns-then-side-eq-BUY : goal.returns-then-side-eq-BUY
unfolding pick
returns-then-side-eq-BUY c = simp (eq-eqb _ _ c.if-side-eq-BUY.true)

pub returns-else-side-eq-BUY : goal.returns-else-side-eq-BUY
unfolding pick
returns-else-side-eq-BUY c = simp (ne_eqb _ _ c.if-side-eq-BUY.false)
