-- `dealing::open::which_way` meets its contract, test by test.
use mathlib.Core.Path.{sym, ◌∙◌}
use Rattle.book.specs.Lent.{book_in}
use Rattle.dealing.specs.WayLaws.{way_21, way_9, way_6, way_quiet, way_20, way_at}
use Rattle.dealing.proofs.open.which_way.Goals as goal

pub returns-then-not-accepted : goal.returns-then-not-accepted
returns-then-not-accepted c = way_21 _ _ (book_in c.args.book.now) _ c.if-not-accepted.true

pub returns-then-s : goal.returns-then-s
returns-then-s c = way_9 _ _ (book_in c.args.book.now) _ c.if-not-accepted.false c.if-s.true

pub returns-then-lent-lt-ROWS : goal.returns-then-lent-lt-ROWS
returns-then-lent-lt-ROWS c =
    way_6 _ _ (book_in c.args.book.now) _ c.if-not-accepted.false c.if-s.false c.if-lent-lt-ROWS.true

pub returns-then-not-crosses : goal.returns-then-not-crosses
returns-then-not-crosses c =
    way_quiet _ _ (book_in c.args.book.now) _ c.if-not-accepted.false c.if-s.false c.if-lent-lt-ROWS.false
    (sym (c.crosses.ensures) ∙ c.if-not-crosses.true)

pub returns-in-Some : goal.returns-in-Some
returns-in-Some c =
    way_at _ _ (book_in c.args.book.now) _ c.if-not-accepted.false c.if-s.false c.if-lent-lt-ROWS.false
    (sym (c.crosses.ensures) ∙ c.if-not-crosses.false)
    c.choice.ensures _ c.in-Some.is

pub returns-in-None : goal.returns-in-None
returns-in-None c =
    way_20 _ _ (book_in c.args.book.now) _ c.if-not-accepted.false c.if-s.false c.if-lent-lt-ROWS.false
    (sym (c.crosses.ensures) ∙ c.if-not-crosses.false)
    c.choice.ensures c.in-None.is
