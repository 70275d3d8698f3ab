-- `replay::tallying::line_of` meets its contract: a tenant's reading is not refused.
use Rattle.std.proofs.Common.{sym}
use Rattle.session.specs.ReadingLaws.{not_refused}
use Rattle.replay.proofs.tallying.line_of.Goals as goal

pub returns-in_default : goal.returns-in_default
returns-in_default c = absurd (not_refused _ _ c.requires.tenant_lt_tenants _ (sym c.in_default.ensures))
