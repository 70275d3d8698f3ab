-- `sheet::line::is_number` meets its contract, by its tests.
use Rattle.std.proofs.Common.{◌∙◌, ⊎_elim, arith}
use Rattle.std.proofs.lemmas.Bool.{le-leb, lt-leb}
use Rattle.units.specs.Tests.{◌and◌}
use Rattle.entry.specs.Numbers.{from1to}
use Rattle.sheet.proofs.line.is_number.Goals as goal
use Rattle.sheet.proofs.line.is_number.Goals.{then-f-ge1, else-f-ge1}

pub returns-then-f-most : goal.returns-then-f-most
unfolding from1to ◌and◌
returns-then-f-most c = let t = c.if-f-most.true in simp (le-leb _ _ t.0, le-leb _ _ t.1) c.all_digits.ensures

pub returns-else-f-most : goal.returns-else-f-most
unfolding from1to ◌and◌
returns-else-f-most c = elim c.if-f-ge1.branch [
  | then-f-ge1 w ↦
      ⊎_elim (λ (h, g). simp (le-leb _ _ h, lt-leb _ _ g) (w.t-4-is ∙ lt-leb _ _ g)) (λ h. absurd (omega arith)) c.if-f-most.either
  | else-f-ge1 w ↦ simp (lt-leb _ _ w.if-f-ge1.false) (w.t-4-is ∙ lt-leb _ _ w.if-f-ge1.false)
]
