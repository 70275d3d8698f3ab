-- `dealing::deal::deal` meets its contract, by whether the entry is a cancel.
use mathlib.Core.Path.{◌∙◌}
use Rattle.dealing.specs.Floor.{met}
use Rattle.dealing.specs.DealLaws.{can_order, by_cancel, by_order}
use Rattle.dealing.proofs.deal.deal.Goals as goal

pub order-requires : goal.order-requires
order-requires c = can_order _ _ _ _ c.requires c.if-e-eq-CANCEL.false

pub returns-then-e-eq-CANCEL : goal.returns-then-e-eq-CANCEL
returns-then-e-eq-CANCEL c =
    let a = c.args in
    c.cancel.ensures a.series a.records.now
    ∙ by_cancel (met a.series a.tallies a.number a.book.now) a.t a.records.now a.e c.if-e-eq-CANCEL.true

pub returns-else-e-eq-CANCEL : goal.returns-else-e-eq-CANCEL
returns-else-e-eq-CANCEL c =
    let a = c.args in
    c.order.ensures ∙ by_order (met a.series a.tallies a.number a.book.now) a.t a.records.now a.e c.if-e-eq-CANCEL.false
