-- `dealing::settle::settle_in_reach` meets its contract: an order out of reach leaves everything as it was, and any
-- other is settled.
use mathlib.Core.Path.{sym, ◌∙◌}
use Rattle.dealing.specs.ReachLaws.{unreached}
use Rattle.dealing.proofs.settle.settle_in_reach.Goals as goal

pub returns-then-out_of_reach : goal.returns-then-out_of_reach
returns-then-out_of_reach c =
    let a = c.args in
    let same =
    unreached _ _ _ a.book.now.sides a.book.now.prices a.book.now.sizes a.book.now.owners a.book.now.numbers _ c.requires.settles _ c.requires.quoted _ a.allocation
    (sym c.out_of_reach.ensures ∙ c.if-out_of_reach.true) in
    record { numbers_value = same.0; records_after = same.1.0; value = same.1.1 }
