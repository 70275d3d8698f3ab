-- `sheet::line::is_tenant` meets its contract, by its test.
use Rattle.std.proofs.Common.{eq-eqb, ne_eqb}
use Rattle.units.specs.Tests.{◌and◌}
use Rattle.sheet.specs.Line.{is_tenant}
use Rattle.sheet.proofs.line.is_tenant.Goals as goal

pub returns-then-f-eq1 : goal.returns-then-f-eq1
unfolding is_tenant ◌and◌
returns-then-f-eq1 c = simp (eq-eqb _ _ c.if-f-eq1.true) c.all_digits.ensures

pub returns-else-f-eq1 : goal.returns-else-f-eq1
unfolding is_tenant ◌and◌
returns-else-f-eq1 c = simp (ne_eqb _ _ c.if-f-eq1.false)
