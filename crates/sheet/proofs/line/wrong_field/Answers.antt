-- `sheet::line::wrong_field` meets its contract, test by test.
use Rattle.units.specs.Tests.{is_not, pick}
use Rattle.sheet.specs.Line.{wrong_field}
use Rattle.sheet.proofs.line.wrong_field.Goals as goal

pub returns-then-not-is_tenant : goal.returns-then-not-is_tenant
unfolding wrong_field is_not pick
returns-then-not-is_tenant c = rw (← c.field_at.ensures, ← c.is_tenant.ensures, c.if-not-is_tenant.true)

pub returns-then-not-is_side : goal.returns-then-not-is_side
unfolding wrong_field is_not pick
returns-then-not-is_side c =
    rw (← c.field_at.ensures, ← c.is_tenant.ensures, c.if-not-is_tenant.false, ← c.field_at-else-not-is_tenant.ensures, ← c.is_side.ensures, c.if-not-is_side.true)

pub returns-then-not-is_size : goal.returns-then-not-is_size
unfolding wrong_field is_not pick
returns-then-not-is_size c =
    rw (← c.field_at.ensures, ← c.is_tenant.ensures, c.if-not-is_tenant.false, ← c.field_at-else-not-is_tenant.ensures, ← c.is_side.ensures, c.if-not-is_side.false, ← c.field_at-else-not-is_side.ensures, ← c.is_size.ensures, c.if-not-is_size.true)

pub returns-else-not-is_size : goal.returns-else-not-is_size
unfolding wrong_field is_not pick
returns-else-not-is_size c =
    rw (← c.field_at.ensures, ← c.is_tenant.ensures, c.if-not-is_tenant.false, ← c.field_at-else-not-is_tenant.ensures, ← c.is_side.ensures, c.if-not-is_side.false, ← c.field_at-else-not-is_side.ensures, ← c.is_size.ensures, c.if-not-is_size.false)
    c.wrong_terms.ensures
