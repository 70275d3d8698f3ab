-- `Session::tally_of` meets its contract, by whether there is such a tenant.
use mathlib.Core.Path.{sym}
use Rattle.session.specs.ReadingLaws.{no_tenant, its_tally}
use Rattle.session.proofs.Session.tally_of.Goals as goal

pub returns-then-t-ge-TENANTS : goal.returns-then-t-ge-TENANTS
returns-then-t-ge-TENANTS c = sym (no_tenant _ _ c.if-t-ge-TENANTS.true)

pub returns : goal.returns
returns c = sym (its_tally _ _ c.if-t-ge-TENANTS.false)
