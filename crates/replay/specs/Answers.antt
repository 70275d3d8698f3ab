-- Whose a taken turn is.
use Rattle.std.specs.Prelude.{◌≡◌, refl, List, ℕ, ◌<◌, ltb}
use Rattle.std.proofs.Common.{arith, ltb-false}
use Rattle.units.specs.Tests.{picked}
use Rattle.units.specs.Units.{tenants}
use Rattle.lanes.specs.Rotation.{served}
use Rattle.session.specs.TurnAnswer.{TurnAnswer}
use Rattle.session.specs.TurnAnswer as answer
use Rattle.dealing.specs.Came.{Came}
use Rattle.dealing.specs.Came as came
use Rattle.dealing.specs.Deal.{dealt}
use Rattle.session.specs.Market.{Market, floor_on}
use Rattle.session.specs.Sound.{Sound}
use Rattle.session.specs.Turn.{TurnDone, turn_refusal, once_taken, head_entry, answer_of, turn_of_lane, turn_of}
use Rattle.session.specs.TakingLaws.{takes, can_take}

-- whose a taken turn was, and 0 for a refused one
abbrev pub tenant_of : TurnAnswer → ℕ
tenant_of (answer.Refused code) = 0
tenant_of (answer.TurnedDown tenant code) = tenant
tenant_of (answer.Cancelled tenant number) = tenant
tenant_of (answer.Accepted tenant number filled disposition fills) = tenant

-- a taken turn is its tenant's, whatever came of the entry
answer_tenant : (t : ℕ) (c : Came) → tenant_of (answer_of t c) ≡ t
answer_tenant t (came.TurnedDown code) = refl
answer_tenant t (came.Cancelled number) = refl
answer_tenant t (came.Accepted number filled disposition fills) = refl

-- a turn is of one of the nine tenants
pub turn_served : (m : Market) (lent : ℕ) (was : List ℕ) → Sound m → tenant_of (turn_of m lent was).answer < tenants
unfolding turn_of
turn_served m lent was sound =
    let code = turn_refusal m.session lent in
    picked (λ (d : TurnDone). tenant_of d.answer < tenants) (ltb 0 code)
    (record { market = m; answer = answer.Refused code; records = was })
    (turn_of_lane m was (served m.session.lanes))
    (λ _. omega arith)
    (λ h.
    let ok = takes m.session lent (omega (arith, ltb-false 0 code h)) in
    let t = ok.lane in
    let f = floor_on (once_taken m t).session m.book in
    rw ok.serves (omega (arith, answer_tenant t (dealt f t was (head_entry m t)).came, (can_take m (sound ok.set) t ok.serves).lane)))
