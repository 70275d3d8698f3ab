-- `opening::cancels::kept` meets its contract, by which test says that the row goes.
use mathlib.Core.Path.{sym, ◌∙◌}
use Rattle.std.proofs.Common.{true≢false}
use Rattle.opening.specs.Opening.{kept_by}
use Rattle.opening.proofs.cancels.kept.Goals as goal
use Rattle.opening.proofs.cancels.kept.Goals.{then-buy_cut, else-buy_cut}

pub returns-then-sell_cut : goal.returns-then-sell_cut
unfolding kept_by
returns-then-sell_cut c =
    elim c.if-buy_cut.branch [
      | then-buy_cut w ↦ simp (sym c.buy_cut.ensures ∙ w.if-buy_cut.true)
      | else-buy_cut w ↦ simp (sym c.buy_cut.ensures ∙ w.if-buy_cut.false, sym w.sell_cut.ensures ∙ sym w.value-is ∙ c.if-sell_cut.true)
    ]

pub returns-else-sell_cut : goal.returns-else-sell_cut
unfolding kept_by
returns-else-sell_cut c =
    elim c.if-buy_cut.branch [
      | then-buy_cut w ↦ absurd (true≢false (sym w.if-buy_cut.true ∙ (sym w.value-is ∙ c.if-sell_cut.false)))
      | else-buy_cut w ↦ simp (sym c.buy_cut.ensures ∙ w.if-buy_cut.false, sym w.sell_cut.ensures ∙ sym w.value-is ∙ c.if-sell_cut.false)
    ]
