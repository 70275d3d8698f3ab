-- The call submit: a bulk of entries into a tenant's lane.
use Rattle.std.specs.Prelude.{List, [], ◌∷◌, ℕ, ◌+◌, leb, ltb}
use Rattle.units.specs.Units.{tenants}
use Rattle.units.specs.Tests.{is_not, pick}
use Rattle.units.specs.Cases.{Case, ◌when◌, first_of}
use Rattle.lanes.specs.Ring.{depth, len_of, put_all, joined}
use Rattle.lanes.specs.Bulk.{well_counted, some_malformed}
use Rattle.dealing.specs.Open.{unset}
use Rattle.session.specs.declared.Session.{Session}
use Rattle.session.specs.Market.{Market, Called, market_of, with_lanes}

-- the numbers in the order of checking: 1 tenant, 3 count, 2 any malformed entry, 4 waiting plus count above 64
abbrev pub submit_cases : Session → ℕ → ℕ → List ℕ → List Case
submit_cases s tenant count ns =
    unset s.accepted
    ∷ (1 when leb tenants tenant)
    ∷ (3 when is_not (well_counted count ns))
    ∷ (2 when some_malformed count ns)
    ∷ (4 when ltb depth (len_of s.lanes tenant + count))
    ∷ []

unfoldable pub submit_refusal : Session → ℕ → ℕ → List ℕ → ℕ
submit_refusal s tenant count ns = first_of 0 (submit_cases s tenant count ns)

-- Submit takes all of a bulk or none: an accepted one puts its entries, as given and in their order, behind those
-- waiting in the tenant's lane, answers 0 and changes nothing else.
abbrev pub with_entries : Market → ℕ → ℕ → List ℕ → Market
with_entries m tenant count ns =
    market_of (with_lanes m.session (joined m.session.lanes tenant count)) m.book
    (put_all m.session.lanes m.entries tenant ns count)

unfoldable pub submit_of : Market → ℕ → ℕ → List ℕ → Called
submit_of m tenant count ns =
    pick (ltb 0 (submit_refusal m.session tenant count ns))
    (record { market = m; code = submit_refusal m.session tenant count ns })
    (record { market = with_entries m tenant count ns; code = 0 })
