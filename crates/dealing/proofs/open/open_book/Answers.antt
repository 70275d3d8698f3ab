-- `dealing::open::open_book` meets its contract: the match leaves and writes what the definitions say, and each row's
-- contracts are credited.
use mathlib.Core.Path.{◌∙◌}
use Rattle.book.specs.Lent.{book_in}
use Rattle.opening.specs.MatchingLaws.{unopened}
use Rattle.dealing.specs.OpenLaws.{opening_ready, opening_credits, counted_is}
use Rattle.dealing.proofs.open.open_book.Goals as goal

pub credit-counted-requires : goal.credit-counted-requires
credit-counted-requires c =
    let a = c.args in
    let same = unopened _ _ _ c.open_at-done.ensures.numbers_value in
    rw (same.0, same.1) (opening_ready a.tallies (book_in a.book.now) _ c.requires _ _ c.open_at-done.ensures.shared_after)

pub returns-clause-value : goal.returns-clause-value
returns-clause-value c =
    let a = c.args in
    let b = book_in a.book.now in
    let same = unopened _ _ _ c.open_at-done.ensures.numbers_value in
    counted_is a.tallies b _ _ _
    ((rw (same.0, same.1) at c.credit-counted.ensures) ∙ opening_credits a.tallies b _ c.requires _ _ c.open_at-done.ensures.shared_after) c.open_at-done.ensures.value
