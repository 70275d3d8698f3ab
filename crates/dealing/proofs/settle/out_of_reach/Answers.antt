-- `dealing::settle::out_of_reach` meets its contract, by the side and by whether there is a quote.
use borrow.Author.Tests.{eq-eqb, ne_eqb}
use Rattle.units.specs.Tests.{◌or◌, pick}
use Rattle.dealing.specs.Reach.{out_of_reach}
use Rattle.dealing.proofs.settle.out_of_reach.Goals as goal

pub returns-then-q-eq0 : goal.returns-then-q-eq0
unfolding out_of_reach ◌or◌ pick
returns-then-q-eq0 c = simp (eq-eqb _ _ c.if-side-eq-BUY.true, eq-eqb _ _ c.if-q-eq0.true)

pub returns-else-q-eq0 : goal.returns-else-q-eq0
unfolding out_of_reach ◌or◌ pick
returns-else-q-eq0 c = simp (eq-eqb _ _ c.if-side-eq-BUY.true, ne_eqb _ _ c.if-q-eq0.false)

pub returns-then-q-eq0-2 : goal.returns-then-q-eq0-2
unfolding out_of_reach ◌or◌ pick
returns-then-q-eq0-2 c = simp (ne_eqb _ _ c.if-side-eq-BUY.false, eq-eqb _ _ c.if-q-eq0-2.true)

pub returns-else-q-eq0-2 : goal.returns-else-q-eq0-2
unfolding out_of_reach ◌or◌ pick
returns-else-q-eq0-2 c = simp (ne_eqb _ _ c.if-side-eq-BUY.false, ne_eqb _ _ c.if-q-eq0-2.false)
