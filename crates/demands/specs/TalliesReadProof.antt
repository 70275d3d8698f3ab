-- A tally as it is read: the reading answers what stands, and what stands are the sums of `Tallies`.
use Rattle.std.specs.Prelude.{◌≡◌, List, ℕ, ◌≤◌, ◌<◌}
use Rattle.std.proofs.Common.{sym, ap, ◌∙◌, arith}
use Rattle.units.specs.Units.{tenants}
use Rattle.units.specs.Tests.{order, less, equal, more}
use Rattle.session.specs.declared.Session.{Session}
use Rattle.session.specs.Tallied.{Refused}
use Rattle.session.specs.Market.{Market}
use Rattle.session.specs.Reading.{values_of, tallied_of}
use Rattle.session.specs.ReadingLaws.{no_tenant, its_tally, not_refused}
use Rattle.replay.specs.Tallying.{reading_of}
use Rattle.replay.specs.TallyingLaws.{lines_same}
use Rattle.demands.specs.Runs.{Call, after, Start}
use Rattle.demands.specs.TalliesProof.{tallies_told}
use Rattle.demands.specs.TalliesRead.{history, TalliesRead}

sums_read : (m : Market) → Start m → (cs : List Call) (t : ℕ) → t < tenants → reading_of (after m cs).session t ≡ history m cs t
sums_read m s cs t h = ap values_of (its_tally (after m cs).session t h) ∙ (λ i. record {
  code = 0;
  turns = tallies_told.turns m s cs t h i;
  bought = tallies_told.bought m s cs t h i;
  sold = tallies_told.sold m s cs t h i;
})

module _ (s : Session) (t n : ℕ) where
  refused_by : tallied_of s t ≡ Refused n → (n ≡ 1) × (tenants ≤ t)
  refused_by e = elim (order t tenants) [
    | less h ↦ absurd (not_refused s t h n e)
    | equal h ↦ above (omega arith)
    | more h ↦ above (omega arith)
  ]
    where
      above : tenants ≤ t → (n ≡ 1) × (tenants ≤ t)
      above h = (ap (λ x. (values_of x).code) (sym e ∙ no_tenant s t h), h)

  refused_if : (n ≡ 1) × (tenants ≤ t) → tallied_of s t ≡ Refused n
  refused_if (e, h) = no_tenant s t h ∙ ap Refused (sym e)

pub tallies_read : TalliesRead
tallies_read = record {
  values = sums_read;
  lines = λ m s cs. lines_same (reading_of (after m cs).session) (history m cs) tenants (sums_read m s cs);
  refused = λ s t n. (refused_by s t n, refused_if s t n);
}
