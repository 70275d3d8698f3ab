-- A turn keeps a market sound.
use Rattle.std.specs.Prelude.{◌≡◌, false, List, ℕ, ◌<◌, ltb}
use Rattle.std.proofs.Common.{arith, ltb-false}
use Rattle.units.specs.Tests.{picked}
use Rattle.units.specs.Units.{tenants}
use Rattle.entry.specs.declared.Entry.{Entry}
use Rattle.entry.specs.Entry.{malformed}
use Rattle.lanes.specs.Rotation.{served}
use Rattle.dealing.specs.Sound.{Kept}
use Rattle.dealing.specs.SoundLaws.{dealt_kept}
use Rattle.session.specs.TurnAnswer as answer
use Rattle.session.specs.Market.{Market, floor_on}
use Rattle.session.specs.Turn.{TurnDone, turn_refusal, once_taken, head_entry, entry_turn, turn_of_lane, turn_of}
use Rattle.session.specs.Sound.{Held, Sound}
use Rattle.session.specs.TakingLaws.{Takes, takes, head_formed, can_take, taking_held}

-- the turn of a well-formed entry keeps what a market holds: it touches neither the lanes nor the away quote
pub entry_held : (m : Market) → Held m → (t : ℕ) → t < tenants → (was : List ℕ) (e : Entry) → malformed e ≡ false → Held (entry_turn m t was e).market
entry_held m held t tenant was e formed =
    let floor : Kept (floor_on m.session m.book) = record { ready = held.ready; uncrossed = held.uncrossed } in
    let kept = dealt_kept (floor_on m.session m.book) floor t tenant was e formed in
    record { ready = kept.ready; bid = held.bid; offer = held.offer; lanes = held.lanes; uncrossed = kept.uncrossed }

-- so does the turn of the lane served
pub lane_held : (m : Market) (lent : ℕ) (was : List ℕ) → Held m → Takes m.session lent → Held (turn_of_lane m was (served m.session.lanes)).market
lane_held m lent was held ok =
    let t = ok.lane in
    rw ok.serves
    (entry_held (once_taken m t) (taking_held m held t ok.serves ok.turns) t (can_take m held t ok.serves).lane was (head_entry m t)
    (head_formed m held t ok.serves))

-- a refused turn leaves the market as it was, and one that is taken keeps what the market holds
pub turn_sound : (m : Market) (lent : ℕ) (was : List ℕ) → Sound m → Sound (turn_of m lent was).market
unfolding turn_of
turn_sound m lent was sound =
    let code = turn_refusal m.session lent in
    picked (λ (d : TurnDone). Sound d.market) (ltb 0 code)
    (record { market = m; answer = answer.Refused code; records = was })
    (turn_of_lane m was (served m.session.lanes))
    (λ _. sound)
    (λ h _.
    let ok = takes m.session lent (omega (arith, ltb-false 0 code h)) in
    lane_held m lent was (sound ok.set) ok)
