-- No market is open without accepted settings, and their allocation is 1 or 2.
use Rattle.std.specs.Prelude.{◌≡◌, refl, ◌⊎◌, true}
use Rattle.std.proofs.Common.{sym, ap, ◌∙◌, eqb-true}
use Rattle.std.proofs.Math.Logic.{⊎_map}
use Rattle.std.proofs.lemmas.Bool.{false≢true}
use Rattle.units.specs.Tests.{◌and◌, and_true, or_true}
use Rattle.entry.specs.declared.Settings.{Settings}
use Rattle.entry.specs.Numbers.{one_or_two}
use Rattle.entry.specs.Settings.{series_in_range, protections_in_range, in_range}
use Rattle.session.specs.declared.Session.{Session}
use Rattle.session.specs.Market.{Market}
use Rattle.demands.specs.Runs.{Reached}
use Rattle.demands.specs.RunLaws.{reached_has}
use Rattle.demands.specs.Shape.{Keeps, step_has}
use Rattle.demands.specs.Class.{HasClass, AlwaysOneClass}

abbrev OpenIfSet : Market → Type 0
OpenIfSet m = m.session.opened ≡ true → m.session.accepted ≡ true

open_keeps : (m : Market) → OpenIfSet m → Keeps OpenIfSet m
open_keeps m only = record {
  refused = only;
  reset = λ given g _ o. refl;
  quoted = λ bid offer. only;
  joins = λ tenant count ns. only;
  takes = λ was t d set left o. left.accepted ∙ set;
  opens = λ b ts set p q o. set;
}

pub open_if_set : (m : Market) → Reached m → m.session.opened ≡ true → m.session.accepted ≡ true
open_if_set = reached_has OpenIfSet (λ m c only. step_has OpenIfSet m (open_keeps m only) c)
    (λ m s o. absurd (false≢true (ap (λ (x : Session). x.opened) (sym s.new) ∙ o)))

-- accepted settings name a class
names_class : (s : Settings) → in_range s ≡ true → (s.allocation ≡ 1) ⊎ (s.allocation ≡ 2)
unfolding in_range series_in_range one_or_two
names_class s h =
    let (front, _) = and_true (series_in_range s and protections_in_range s) _ h in
    let (series, _) = and_true (series_in_range s) _ front in
    let (kinds, _) = and_true (one_or_two s.allocation and one_or_two s.option) _ series in
    ⊎_map (eqb-true _ _) (eqb-true _ _) (or_true _ _ (and_true (one_or_two s.allocation) _ kinds).0)

class_keeps : (m : Market) → HasClass m → Keeps HasClass m
class_keeps m one = record {
  refused = one;
  reset = λ given g h _. names_class given h;
  quoted = λ bid offer. one;
  joins = λ tenant count ns. one;
  takes = λ was t d set left _. rw left.terms (one set);
  opens = λ b ts set p q _. one set;
}

pub always_one_class : AlwaysOneClass
always_one_class = reached_has HasClass (λ m c one. step_has HasClass m (class_keeps m one) c)
    (λ m s set. absurd (false≢true (ap (λ (x : Session). x.accepted) (sym s.new) ∙ set)))
