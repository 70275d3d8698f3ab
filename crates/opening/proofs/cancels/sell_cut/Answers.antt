-- `opening::cancels::sell_cut` meets its contract, test by test.
use mathlib.Core.Path.{sym, ◌∙◌}
use borrow.Author.Tests.{eq-eqb, ne_eqb}
use Rattle.std.proofs.Common.{true≢false}
use Rattle.opening.specs.Opening.{sell_cut}
use Rattle.opening.proofs.cancels.sell_cut.Goals as goal
use Rattle.opening.proofs.cancels.sell_cut.Goals.{then-side-eq-SELL, else-side-eq-SELL}

pub returns-then-cut : goal.returns-then-cut
unfolding sell_cut
returns-then-cut c =
    elim c.if-side-eq-SELL.branch [
      | then-side-eq-SELL w ↦ simp (eq-eqb _ _ w.if-side-eq-SELL.true, sym w.value-is ∙ c.if-cut.true)
      | else-side-eq-SELL w ↦ absurd (true≢false (sym c.if-cut.true ∙ (w.value-is ∙ ne_eqb _ _ w.if-side-eq-SELL.false)))
    ]

pub returns-else-cut : goal.returns-else-cut
unfolding sell_cut
returns-else-cut c =
    elim c.if-side-eq-SELL.branch [
      | then-side-eq-SELL w ↦ simp (eq-eqb _ _ w.if-side-eq-SELL.true, sym w.value-is ∙ c.if-cut.false, c.if-cut.false)
      | else-side-eq-SELL w ↦ simp (ne_eqb _ _ w.if-side-eq-SELL.false, c.if-cut.false)
    ]
