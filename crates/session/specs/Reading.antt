-- The reading of a tenant's tally.
use Rattle.std.specs.Prelude.{ℕ, leb}
use Rattle.units.specs.Units.{tenants}
use Rattle.units.specs.Tests.{pick}
use Rattle.tally.specs.Tallies.{tally_at}
use Rattle.session.specs.declared.Session.{Session}
use Rattle.session.specs.Tallied.{Tallied}
use Rattle.session.specs.Tallied as answer

-- the paper's values of a reading: 0, turns taken, contracts bought and contracts sold; a refused one gives the number
-- alone
pub record Values : Type 0 where
  pub code : ℕ
  pub turns : ℕ
  pub bought : ℕ
  pub sold : ℕ

abbrev pub values_of : Tallied → Values
values_of (answer.Refused code) = record { code = code; turns = 0; bought = 0; sold = 0 }
values_of (answer.Of t) = record { code = 0; turns = t.turns; bought = t.bought; sold = t.sold }

-- 1 tenant; else the tally as it stands
unfoldable pub tallied_of : Session → ℕ → Tallied
tallied_of s tenant = pick (leb tenants tenant) (answer.Refused 1) (answer.Of (tally_at s.tallies tenant))
