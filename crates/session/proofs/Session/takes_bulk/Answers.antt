-- `Session::takes_bulk` meets its contract, test by test.
use mathlib.Core.Path.{sym, ◌∙◌}
use Rattle.session.specs.SubmitLaws.{refused_21, refused_1, refused_3, refused_2, refused_4, not_refused}
use Rattle.session.proofs.Session.takes_bulk.Goals as goal

pub returns-then-not-self : goal.returns-then-not-self
returns-then-not-self c = refused_21 _ _ _ _ c.if-not-self.true

pub returns-then-t-ge-TENANTS : goal.returns-then-t-ge-TENANTS
returns-then-t-ge-TENANTS c = refused_1 _ _ _ _ c.if-not-self.false c.if-t-ge-TENANTS.true

pub returns-then-not-well_counted : goal.returns-then-not-well_counted
returns-then-not-well_counted c =
    refused_3 _ _ _ _ c.if-not-self.false c.if-t-ge-TENANTS.false (sym c.well_counted.ensures ∙ c.if-not-well_counted.true)

pub returns-then-some_malformed : goal.returns-then-some_malformed
returns-then-some_malformed c =
    refused_2 _ _ _ _ c.if-not-self.false c.if-t-ge-TENANTS.false (sym c.well_counted.ensures ∙ c.if-not-well_counted.false)
    (sym c.some_malformed.ensures ∙ c.if-some_malformed.true)

pub returns-then-too_many : goal.returns-then-too_many
returns-then-too_many c =
    refused_4 _ _ _ _ c.if-not-self.false c.if-t-ge-TENANTS.false (sym c.well_counted.ensures ∙ c.if-not-well_counted.false)
    (sym c.some_malformed.ensures ∙ c.if-some_malformed.false) (sym c.too_many.ensures ∙ c.if-too_many.true)

pub returns : goal.returns
returns c =
    not_refused _ _ _ _ c.if-not-self.false c.if-t-ge-TENANTS.false (sym c.well_counted.ensures ∙ c.if-not-well_counted.false)
    (sym c.some_malformed.ensures ∙ c.if-some_malformed.false) (sym c.too_many.ensures ∙ c.if-too_many.false)
