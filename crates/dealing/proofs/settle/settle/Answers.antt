-- `dealing::settle::settle` meets its contract: what the trade left and wrote is the definitions', and the tallies stay
-- where nothing was filled, and else are credited with the incoming order and with the rows that traded.
use Rattle.book.specs.Lent.{book_in}
use Rattle.book.specs.TradingLaws.{untraded}
use Rattle.dealing.specs.SettleLaws.{own_ready, all_ready, settled_is, settled_none}
use Rattle.dealing.proofs.settle.settle.Goals as goal

pub returns-then-filled-eq0-clause-value : goal.returns-then-filled-eq0-clause-value
returns-then-filled-eq0-clause-value c =
    let a = c.args in
    let b = book_in a.book.now in
    let done = c.trade-done.ensures in
    settled_none _ _ _ b _ c.requires _ _ _ c.other_side-side.ensures _ done.shared_after _ done.value c.if-filled-eq0.true

pub credit_row-own-requires : goal.credit_row-own-requires
credit_row-own-requires c =
    let a = c.args in
    let b = book_in a.book.now in
    own_ready _ _ _ b _ c.requires _ _ _ c.other_side-side.ensures _ c.trade-done.ensures.shared_after _ c.trade-done.ensures.value

pub credit-all-requires : goal.credit-all-requires
credit-all-requires c =
    let a = c.args in
    let b = book_in a.book.now in
    let same = untraded _ _ _ _ _ _ c.trade-done.ensures.numbers_value in
    rw (same.0, same.1)
    (all_ready _ _ _ b _ c.requires _ _ _ c.other_side-side.ensures _ c.trade-done.ensures.shared_after _ c.trade-done.ensures.value
    _ c.credit_row-own.ensures)

pub returns-clause-value : goal.returns-clause-value
returns-clause-value c =
    let a = c.args in
    let b = book_in a.book.now in
    let done = c.trade-done.ensures in
    let same = untraded _ _ _ _ _ _ done.numbers_value in
    settled_is _ _ _ b _ c.requires _ _ _ c.other_side-side.ensures _ done.shared_after _ done.value _ c.credit_row-own.ensures _
    (rw (same.0, same.1) at c.credit-all.ensures)
