-- Demand 1. Any call with any numbers ends with a result; a refused call changes nothing; a taken turn whose entry is
-- turned down changes only the lane, the rotation and the count of turns.
--
-- That a call ends with a result is in the words here: `step` is a total function, and the promise of each call is an
-- equation with it for every sound market and every argument.
use Rattle.std.specs.Prelude.{◌≡◌, ◌≢◌, true, ◌∷◌, ℕ, ◌<◌}
use Rattle.units.specs.Units.{tenants}
use Rattle.lanes.specs.Rotation.{on}
use Rattle.lanes.specs.Waiting.{waiting}
use Rattle.tally.specs.Tallies.{counted}
use Rattle.session.specs.TurnAnswer.{TurnedDown}
use Rattle.session.specs.Market.{Market}
use Rattle.demands.specs.Runs.{Call, turned, lent_to, step, is_refused, head_entry, Reached}

-- the whole market and every fill record lent are as they were
pub record NothingChanged (m : Market) (c : Call) : Type 0 where
  pub market : (step m c).market ≡ m
  pub records : (step m c).records ≡ lent_to c

-- Of the market m only tenant t's lane, the rotation and the count of t's turns are changed in `next`.
pub record OnlyTurnTaken (m : Market) (t : ℕ) (next : Market) : Type 0 where
  -- t's lane has lost its head entry, the other lanes hold what they held, and the place is at the tenant after t
  pub tenant : t < tenants
  pub own_lane :
      waiting m.session.lanes m.entries t ≡ head_entry m t ∷ waiting next.session.lanes next.entries t
  pub other_lanes : (u : ℕ) → u ≢ t → waiting next.session.lanes next.entries u ≡ waiting m.session.lanes m.entries u
  pub place : next.session.lanes.place ≡ on t 1
  -- t's tally has one turn more, and nothing bought or sold
  pub tallies : next.session.tallies ≡ counted m.session.tallies t 1 0 0
  -- all else is the same
  pub book : next.book ≡ m.book
  pub accepted : next.session.accepted ≡ m.session.accepted
  pub terms : next.session.terms ≡ m.session.terms
  pub away : next.session.away ≡ m.session.away
  pub opened : next.session.opened ≡ m.session.opened
  pub number : next.session.next ≡ m.session.next

pub record Demand1 : Type 0 where
  pub refused : (m : Market) (c : Call) → is_refused (step m c).answer ≡ true → NothingChanged m c
  pub turned_down :
      (m : Market) → Reached m → (c : Call) (t code : ℕ) → (step m c).answer ≡ turned (TurnedDown t code) →
      OnlyTurnTaken m t (step m c).market × ((step m c).records ≡ lent_to c)
