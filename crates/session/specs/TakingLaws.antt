-- A turn that is not refused takes the head entry of the lane served: what it has, and that what a market holds is held
-- once the turn is taken.
use Rattle.std.specs.Prelude.{Option, Some, None, ◌≡◌, refl, true, false, List, ℕ, ◌+◌, ◌*◌, ◌≤◌, ◌<◌, leb, ltb, length}
use Rattle.std.proofs.Common.{◌∙◌, true≢false, arith, leb-false, ltb-false}
use Rattle.units.specs.Tests.{is_not, and_true, not_holds, not_false}
use Rattle.units.specs.CaseLaws.{given_none}
use Rattle.rows.specs.Rows.{rows}
use Rattle.book.specs.Records.{fields}
use Rattle.entry.specs.Entry.{malformed}
use Rattle.lanes.specs.declared.Lanes.{Lanes}
use Rattle.lanes.specs.Ring.{taken}
use Rattle.lanes.specs.Rotation.{served}
use Rattle.lanes.specs.Asked.{CanTake}
use Rattle.lanes.specs.Marks.{take_marked, served_can_take}
use Rattle.lanes.specs.Waiting.{take_each}
use Rattle.tally.specs.Tallies.{only_for, turns_in_all, bought_in_all, sold_in_all, most_turns, Countable}
use Rattle.tally.specs.TallyLaws.{added_length, in_all_has, turn_counts, turn_bought, turn_sold}
use Rattle.session.specs.declared.Session.{Session}
use Rattle.session.specs.Market.{Market, floor_on}
use Rattle.book.specs.Sound.{resting}
use Rattle.dealing.specs.OrderLaws.{sums_fit}
use Rattle.dealing.specs.Demands.{CanDeal}
use Rattle.dealing.specs.Sound.{SoundTallies, Ready}
use Rattle.session.specs.Turn.{nobody, turn_cases, turn_refusal, after_taking, once_taken, head_entry}
use Rattle.session.specs.Sound.{SoundLanes, Held, Sound, TurnsHeld}

-- what a turn that is not refused has
pub record Takes (s : Session) (lent : ℕ) : Type 0 where
  pub set : s.accepted ≡ true
  -- the lane served
  pub lane : ℕ
  pub serves : served s.lanes ≡ Some lane
  pub room : rows ≤ lent
  pub turns : turns_in_all s.tallies < most_turns

some_lane : (x : Option ℕ) → nobody x ≡ false → (t : ℕ) × (x ≡ Some t)
some_lane (Some t) h = (t, refl)
some_lane None h = absurd (true≢false h)

pub takes : (s : Session) (lent : ℕ) → turn_refusal s lent ≡ 0 → Takes s lent
unfolding turn_refusal
takes s lent e =
    let n0 = and_true (is_not (is_not s.accepted)) _ ((given_none 0 (turn_cases s lent) refl).0 e) in
    let n1 = and_true (is_not (nobody (served s.lanes))) _ n0.1 in
    let n2 = and_true (is_not (ltb lent rows)) _ n1.1 in
    let n3 = and_true (is_not (leb most_turns (turns_in_all s.tallies))) _ n2.1 in
    let busy = some_lane (served s.lanes) (not_holds _ n1.0) in
    record {
      set = not_false _ (not_holds _ n0.0);
      lane = busy.0;
      serves = busy.1;
      room = ltb-false lent rows (not_holds _ n2.0);
      turns = leb-false most_turns (turns_in_all s.tallies) (not_holds _ n3.0);
    }

-- in a sound market the tallies' turns can be counted
pub turns_held : (m : Market) → Sound m → TurnsHeld m.session
turns_held m sound set =
    let tallies = (sound set).ready.tallies in
    record { long = tallies.long; sum = omega (arith, tallies.turns) }

-- what is taken of sound lanes leaves them sound
pub take_sound : (l : Lanes) (entries : List ℕ) (t : ℕ) → SoundLanes l entries → CanTake l t → SoundLanes (taken l t) entries
take_sound l entries t s can = record {
  entries_long = s.entries_long;
  marks = take_marked l t s.marks can;
  formed = take_each l entries t can.lane s.marks.heads_long s.marks.lens_long (λ e. malformed e ≡ false) s.formed;
}

-- the lane served in a market that holds, and its head entry
module _ (m : Market) (held : Held m) (t : ℕ) (serves : served m.session.lanes ≡ Some t) where
  pub can_take : CanTake m.session.lanes t
  can_take = served_can_take m.session.lanes t held.lanes.marks serves

  pub head_formed : malformed (head_entry m t) ≡ false
  head_formed = held.lanes.formed t 0 can_take.lane can_take.some

  pub taking_lanes : SoundLanes (taken m.session.lanes t) m.entries
  taking_lanes = take_sound m.session.lanes m.entries t held.lanes can_take

  module _ (fewer : turns_in_all m.session.tallies < most_turns) where
    abbrev counts : SoundTallies m.session.tallies m.session.next m.book
    counts = held.ready.tallies

    pub can_count : Countable m.session.tallies t 1 0 0
    can_count =
        let all = m.session.tallies in
        let bought = sums_fit m.session.next (bought_in_all all + resting m.book) 0 held.ready.next_most counts.bought (omega arith) in
        let sold = sums_fit m.session.next (sold_in_all all + resting m.book) 0 held.ready.next_most counts.sold (omega arith) in
        record {
          long = counts.long;
          tenant = can_take.lane;
          sums = (
            omega (arith, in_all_has (λ x. x.turns) all t can_take.lane),
            omega (arith, in_all_has (λ x. x.bought) all t can_take.lane),
            omega (arith, in_all_has (λ x. x.sold) all t can_take.lane),
          );
        }

    taking_tallies : SoundTallies (after_taking m.session t).tallies m.session.next m.book
    unfolding after_taking
    taking_tallies =
        let all = m.session.tallies in
        record {
          long = added_length (only_for t 1) (only_for t 0) (only_for t 0) 0 all ∙ counts.long;
          turns = omega (arith, turn_counts all t counts.long can_take.lane);
          bought = rw (turn_bought all t counts.long) counts.bought;
          sold = rw (turn_sold all t counts.long) counts.sold;
        }

    pub taking_ready : Ready (floor_on (after_taking m.session t) m.book)
    unfolding after_taking
    taking_ready = record {
      book = held.ready.book;
      terms = held.ready.terms;
      next_least = held.ready.next_least;
      next_most = held.ready.next_most;
      tallies = taking_tallies;
    }

    -- what the entry's turn rests on
    pub can_deal : (was : List ℕ) → length was ≡ fields * rows →
        CanDeal (floor_on (after_taking m.session t) m.book) t (head_entry m t) was
    can_deal was long = record { ready = taking_ready; formed = head_formed; tenant = can_take.lane; records_long = long }

    -- the market once the turn is taken holds
    pub taking_held : Held (once_taken m t)
    unfolding after_taking
    taking_held = record {
      ready = taking_ready;
      bid = held.bid;
      offer = held.offer;
      lanes = taking_lanes;
      uncrossed = held.uncrossed;
    }
