-- `price::amounts::minimum_amount` meets its contract. The invariant: no row so far was the one, so what is sought is
-- what the rows from here on give; and the last row is never passed.
use mathlib.Core.Path.{sym, ◌∙◌}
use native.Mathlib.Omega.{arith}
use Rattle.price.specs.AmountLaws.{row, rows, lookup_found, lookup_passed, lookup_minimum, never_past}
use Rattle.price.proofs.amounts.minimum_amount.Goals as goal

pub loop-row-init : goal.loop-row-init
loop-row-init c = (omega arith, lookup_minimum _)

pub returns-then-nbb-row : goal.returns-then-nbb-row
returns-then-nbb-row c =
    let l = c.loop-row in
    sym (l.invariant.1 (omega arith) ∙ lookup_found rows l.row-index _ (row 0 0) l.invariant.0 c.if-nbb-row.true)

pub loop-row-preserved : goal.loop-row-preserved
loop-row-preserved c =
    let l = c.loop-row in (
      never_past l.row-index _ (row 0 0) l.invariant.0 (omega arith) c.if-nbb-row.false,
      λ most. l.invariant.1 most ∙ lookup_passed rows l.row-index _ (row 0 0) l.invariant.0 c.if-nbb-row.false,
    )

pub unreachable-requires : goal.unreachable-requires
unreachable-requires c = omega arith
