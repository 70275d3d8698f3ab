-- `entry::best_quotes::lower_offer` meets its contract: the tests say which offers are absent, else it is the lesser.
use Rattle.std.proofs.Common.{ap, eq-eqb, ne_eqb}
use Rattle.units.specs.Units.{cents}
use Rattle.units.specs.Tests.{pick}
use Rattle.entry.specs.Quotes.{lower_offer}
use Rattle.entry.proofs.best_quotes.lower_offer.Goals as goal

pub returns-then-a-eq0 : goal.returns-then-a-eq0
unfolding pick lower_offer
returns-then-a-eq0 c = simp (eq-eqb _ _ c.if-a-eq0.true)

pub returns-then-b-eq0 : goal.returns-then-b-eq0
unfolding pick lower_offer
returns-then-b-eq0 c = simp (ne_eqb _ _ c.if-a-eq0.false, eq-eqb _ _ c.if-b-eq0.true)

pub returns : goal.returns
unfolding pick lower_offer
returns c = simp (ne_eqb _ _ c.if-a-eq0.false, ne_eqb _ _ c.if-b-eq0.false) (ap cents c.min.ensures)
