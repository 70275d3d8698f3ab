-- The lanes' marks stay within their rings, and the lane that a turn serves is one from which it can take.
use Rattle.std.specs.Prelude.{◌≡◌, List, ℕ, ◌+◌, ◌-◌, ◌%◌, ◌≤◌, ◌<◌, length, get_or, set, Some}
use Rattle.std.proofs.Common.{ap, ◌∙◌, arith}
use Rattle.std.proofs.Math.Decide.{ℕ_discrete}
use Rattle.std.proofs.Math.ListN.{length-set}
use Rattle.std.proofs.Math.Seq.{get_or-set_same, get_or-set_other}
use Rattle.std.proofs.lemmas.List.{length-map, length-replicate, get_or-replicate}
use borrow.Author.Tests.{ltb-true}
use Rattle.units.specs.Units.{tenants}
use Rattle.lanes.specs.declared.Lane.{Lane}
use Rattle.lanes.specs.declared.Lanes.{Lanes}
use Rattle.lanes.specs.Ring.{depth, lane_of, heads, lens, head_of, len_of, joined, taken, empty}
use Rattle.lanes.specs.RingLaws.{heads_joined, lens_joined, heads_taken, lens_taken}
use Rattle.lanes.specs.Asked.{CanJoin, CanTake}
use Rattle.lanes.specs.Rotation.{waits, served}
use Rattle.lanes.specs.RotationLaws.{served_first}

-- heads stand in their rings, no lane holds more than 64 entries, and the rotation is at a tenant
pub record Marked (l : Lanes) : Type 0 where
  pub heads_long : length (heads l) ≡ tenants
  pub lens_long : length (lens l) ≡ tenants
  pub head : (t : ℕ) → t < tenants → head_of l t < depth
  pub len : (t : ℕ) → t < tenants → len_of l t ≤ depth
  pub place : l.place < tenants

-- no entry waits in empty lanes, and their heads stand at 0
pub empty_head : (t : ℕ) → t < tenants → head_of empty t ≡ 0
empty_head t p = ap (λ x. x.head) (get_or-replicate tenants t (lane_of 0 0) (lane_of 0 0) p)

pub empty_len : (t : ℕ) → t < tenants → len_of empty t ≡ 0
empty_len t p = ap (λ x. x.len) (get_or-replicate tenants t (lane_of 0 0) (lane_of 0 0) p)

pub empty_marked : Marked empty
empty_marked = record {
  heads_long = length-map empty.lanes (λ x. x.head) ∙ length-replicate {A = Lane} tenants (lane_of 0 0);
  lens_long = length-map empty.lanes (λ x. x.len) ∙ length-replicate {A = Lane} tenants (lane_of 0 0);
  head = λ t p. omega (arith, empty_head t p);
  len = λ t p. omega (arith, empty_len t p);
  place = omega arith;
}

-- what holds of each lane, and of x, holds of each after x is stored
lane_each : (P : Lane → Type 0) (xs : List Lane) (t : ℕ) (x : Lane) → length xs ≡ tenants
    → ((u : ℕ) → u < tenants → P (get_or xs u (lane_of 0 0))) → P x → (u : ℕ) → u < tenants → P (get_or (set xs t x) u (lane_of 0 0))
lane_each P xs t x long each new u p = elim (ℕ_discrete u t) [
  | yes e ↦ rw (e, get_or-set_same xs t x (lane_of 0 0) (omega arith)) new
  | no d ↦ rw (get_or-set_other xs t u x (lane_of 0 0) d) (each u p)
]

module _ (l : Lanes) (t : ℕ) (m : Marked l) where
  nine : length l.lanes ≡ tenants
  nine = omega (arith, m.lens_long, length-map l.lanes (λ x. x.len))

  pub join_marked : (n : ℕ) → CanJoin l t n → Marked (joined l t n)
  unfolding joined
  join_marked n can = record {
    heads_long = ap length (heads_joined l t n) ∙ m.heads_long;
    lens_long = ap length (lens_joined l t n) ∙ length-set (lens l) t (len_of l t + n) ∙ m.lens_long;
    head = lane_each (λ x. x.head < depth) l.lanes t (lane_of (head_of l t) (len_of l t + n)) nine m.head (m.head t can.lane);
    len = lane_each (λ x. x.len ≤ depth) l.lanes t (lane_of (head_of l t) (len_of l t + n)) nine m.len can.room;
    place = m.place;
  }

  pub take_marked : CanTake l t → Marked (taken l t)
  unfolding taken
  take_marked can = record {
    heads_long = ap length (heads_taken l t) ∙ length-set (heads l) t ((head_of l t + 1) % depth) ∙ m.heads_long;
    lens_long = ap length (lens_taken l t) ∙ length-set (lens l) t (len_of l t - 1) ∙ m.lens_long;
    head = lane_each (λ x. x.head < depth) l.lanes t (lane_of ((head_of l t + 1) % depth) (len_of l t - 1)) nine m.head (omega arith);
    len = lane_each (λ x. x.len ≤ depth) l.lanes t (lane_of ((head_of l t + 1) % depth) (len_of l t - 1)) nine m.len
        (omega (arith, m.len t can.lane));
    place = omega arith;
  }

  -- an entry can be taken of the lane that is served
  pub served_can_take : served l ≡ Some t → CanTake l t
  unfolding served
  served_can_take e =
      let first = (served_first (waits l) l.place m.place t).0 e in
      record { lane = first.lane; head = m.head t first.lane; some = ltb-true _ _ first.waits }
