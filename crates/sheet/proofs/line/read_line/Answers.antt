-- `sheet::line::read_line` meets its contract: the order of a line whose fields are right, or what is wrong with the
-- first that is.
use Rattle.std.proofs.Common.{◌≡◌, sym, ap, ◌∙◌, Some, arith, eq-eqb, ne_eqb}
use Rattle.units.specs.Tests.{pick_yes, pick_no}
use Rattle.sheet.specs.declared.line.Field.{Field}
use Rattle.sheet.specs.declared.line.Field.TheVariants.{Tenant, Side, Size, Kind, Price, Life}
use Rattle.sheet.specs.Line.{Right, Wrong, field_number, fault_of, line_of}
use Rattle.sheet.proofs.line.read_line.Goals as goal

-- a field is counted from 1
counted : (f : Field) → field_number (Some f) ≡ 0 → ⊥
counted Tenant e = omega arith
counted Side e = omega arith
counted Size e = omega arith
counted Kind e = omega arith
counted Price e = omega arith
counted Life e = omega arith

pub order_of-requires : goal.order_of-requires
order_of-requires c = sym c.in-None.ensures

pub returns-in-None : goal.returns-in-None
unfolding line_of
returns-in-None c = ap Right c.order_of.ensures ∙ sym (pick_yes _ _ (eq-eqb _ 0 (sym c.in-None.ensures)))

pub returns-in-Some : goal.returns-in-Some
unfolding line_of
returns-in-Some c =
    ap Wrong (c.fault.ensures ∙ ap fault_of c.in-Some.ensures)
    ∙ sym (pick_no _ _ (ne_eqb _ 0 (λ e. counted c.in-Some.field (c.in-Some.ensures ∙ e))))
