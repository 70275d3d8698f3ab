-- `dealing::deal::dispose` meets its contract, by the disposition.
use mathlib.Core.Path.{sym, ◌∙◌, ap}
use borrow.Author.Rules.{rules}
use denote.Enum.Bare.{same_true, same_false}
use Rattle.judge.specs.contracts.outcome.Disposition.{the_type}
use Rattle.judge.specs.declared.outcome.Disposition.TheVariants.{Rests}
use Rattle.judge.specs.Dispositions.{disposition_number, disposition_one}
use Rattle.dealing.specs.TradeLaws.{disposed_rests, disposed_not}
use Rattle.dealing.proofs.deal.dispose.Goals as goal

pub returns-then-eq : goal.returns-then-eq
returns-then-eq c =
    disposed_rests _ c.args.e _ _ _ _ _ (ap disposition_number (same_true the_type (search rules) c.args.d Rests (sym c.eq.ensures ∙ c.if-eq.true)))
    c.rest.ensures

pub returns-else-eq : goal.returns-else-eq
returns-else-eq c =
    disposed_not _ c.args.e _ _ _ _
    (λ h. same_false the_type c.args.d Rests (sym c.eq.ensures ∙ c.if-eq.false) (disposition_one c.args.d Rests h))
