-- A reading, by whether there is such a tenant.
use Rattle.std.specs.Prelude.{◌≡◌, Bool, true, false, ℕ, ◌≤◌, ◌<◌}
use Rattle.std.proofs.Common.{sym, ap, ◌∙◌, le-leb}
use Rattle.std.proofs.Math.Bool.{true≢false}
use Rattle.std.proofs.lemmas.Bool.{lt-leb}
use Rattle.units.specs.Units.{tenants}
use Rattle.units.specs.Tests.{pick_yes, pick_no}
use Rattle.tally.specs.Tallies.{tally_at}
use Rattle.session.specs.declared.Session.{Session}
use Rattle.session.specs.Tallied.{Tallied}
use Rattle.session.specs.Tallied as answer
use Rattle.session.specs.Reading.{tallied_of}

-- a tally is told
told : Tallied → Bool
told (answer.Refused code) = false
told (answer.Of t) = true

module _ (s : Session) (tenant : ℕ) where
  pub no_tenant : tenants ≤ tenant → tallied_of s tenant ≡ answer.Refused 1
  unfolding tallied_of
  no_tenant h = pick_yes _ _ (le-leb tenants tenant h)

  pub its_tally : tenant < tenants → tallied_of s tenant ≡ answer.Of (tally_at s.tallies tenant)
  unfolding tallied_of
  its_tally h = pick_no _ _ (lt-leb tenants tenant h)

  pub not_refused : tenant < tenants → (code : ℕ) → tallied_of s tenant ≡ answer.Refused code → ⊥
  unfolding told
  not_refused h code e = true≢false (ap told (sym (its_tally h) ∙ e))
