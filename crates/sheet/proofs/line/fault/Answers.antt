-- `sheet::line::fault` meets its contract: its rule at each field.
use Rattle.std.proofs.Common.{inl, inr}
use Rattle.units.specs.Tests.{pick}
use Rattle.sheet.specs.Line.{fault_of}
use Rattle.sheet.proofs.line.fault.Goals as goal

pub returns-in-Tenant : goal.returns-in-Tenant
unfolding fault_of pick
returns-in-Tenant c = elim c.in-Tenant.is [ inl e ↦ rw e | inr (inl e) ↦ rw e | inr (inr e) ↦ rw e ]

pub returns-in-Side : goal.returns-in-Side
unfolding fault_of pick
returns-in-Side c = elim c.in-Side.is [ inl e ↦ rw e | inr (inl e) ↦ rw e | inr (inr e) ↦ rw e ]
