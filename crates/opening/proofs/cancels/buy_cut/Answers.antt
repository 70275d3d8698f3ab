-- `opening::cancels::buy_cut` meets its contract, test by test.
use mathlib.Core.Path.{sym, ◌∙◌}
use borrow.Author.Tests.{eq-eqb, ne_eqb}
use Rattle.std.proofs.Common.{true≢false}
use Rattle.opening.specs.Opening.{buy_cut}
use Rattle.opening.proofs.cancels.buy_cut.Goals as goal
use Rattle.opening.proofs.cancels.buy_cut.Goals.{then-side-eq-BUY, else-side-eq-BUY}

pub returns-then-cut : goal.returns-then-cut
unfolding buy_cut
returns-then-cut c =
    elim c.if-side-eq-BUY.branch [
      | then-side-eq-BUY w ↦ simp (eq-eqb _ _ w.if-side-eq-BUY.true, sym w.value-is ∙ c.if-cut.true)
      | else-side-eq-BUY w ↦ absurd (true≢false (sym c.if-cut.true ∙ (w.value-is ∙ ne_eqb _ _ w.if-side-eq-BUY.false)))
    ]

pub returns-else-cut : goal.returns-else-cut
unfolding buy_cut
returns-else-cut c =
    elim c.if-side-eq-BUY.branch [
      | then-side-eq-BUY w ↦ simp (eq-eqb _ _ w.if-side-eq-BUY.true, sym w.value-is ∙ c.if-cut.false, c.if-cut.false)
      | else-side-eq-BUY w ↦ simp (ne_eqb _ _ w.if-side-eq-BUY.false, c.if-cut.false)
    ]
