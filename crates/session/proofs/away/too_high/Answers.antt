-- `session::away::too_high` meets its contract, by whether the bid is.
use Rattle.std.proofs.Common.{lt-ltb, le-ltb}
use Rattle.units.specs.Tests.{◌or◌}
use Rattle.session.specs.Settings.{too_high}
use Rattle.session.proofs.away.too_high.Goals as goal

pub returns-then-bid-gt-HIGHEST : goal.returns-then-bid-gt-HIGHEST
unfolding too_high ◌or◌
returns-then-bid-gt-HIGHEST c = simp (lt-ltb _ _ c.if-bid-gt-HIGHEST.true)

pub returns-else-bid-gt-HIGHEST : goal.returns-else-bid-gt-HIGHEST
unfolding too_high ◌or◌
returns-else-bid-gt-HIGHEST c = simp (le-ltb _ _ c.if-bid-gt-HIGHEST.false)
