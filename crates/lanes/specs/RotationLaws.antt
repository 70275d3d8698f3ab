-- The lane that a turn serves is the first non-empty one at or after the place, and there is one exactly where some
-- lane has an entry.
use Rattle.std.specs.Prelude.{◌≡◌, refl, Bool, false, ◌↔◌, ℕ, ◌≤◌, ◌<◌, Option, Some, None}
use Rattle.std.proofs.Common.{sym, ◌∙◌, ap, arith, lt-ltb, le-ltb}
use Rattle.units.specs.Units.{tenants}
use Rattle.units.specs.Tests.{pick_yes, pick_no, holds_not_fails, order, less, equal, more}
use Rattle.units.specs.Firsts.{first_holds, first_before, first_least}
use Rattle.lanes.specs.Rotation.{on, distance, served_by}
use Rattle.lanes.specs.Runs.{ahead, FirstBusy}

-- round the lanes and back
pub on_ahead : (p t : ℕ) → p < tenants → t < tenants → on p (ahead p t) ≡ t
unfolding ahead
on_ahead p t hp ht = omega arith

ahead_on : (p d : ℕ) → p < tenants → d < tenants → ahead p (on p d) ≡ d
unfolding ahead
ahead_on p d hp hd = omega arith

pub ahead_less : (p t : ℕ) → ahead p t < tenants
unfolding ahead
ahead_less p t = omega arith

-- two lanes as far on are the same
pub ahead_same : (p t u : ℕ) → p < tenants → t < tenants → u < tenants → ahead p t ≡ ahead p u → t ≡ u
ahead_same p t u hp ht hu e = sym (on_ahead p t hp ht) ∙ ap (on p) e ∙ on_ahead p u hp hu

module _ (busy : ℕ → Bool) (p : ℕ) where
  pub served_lane : distance busy p < tenants → served_by busy p ≡ Some (on p (distance busy p))
  unfolding served_by
  served_lane h = pick_yes _ _ (lt-ltb _ _ h)

  pub served_nobody : tenants ≤ distance busy p → served_by busy p ≡ None
  unfolding served_by
  served_nobody h = pick_no _ _ (le-ltb _ _ h)

  -- what an answer of the rotation says
  abbrev pub Serves : Option ℕ → Type 0
  Serves (Some t) = FirstBusy busy p t
  Serves None = (t : ℕ) → t < tenants → busy t ≡ false

  module _ (hp : p < tenants) where
    distance_first : distance busy p < tenants → FirstBusy busy p (on p (distance busy p))
    unfolding distance
    distance_first h = record {
      lane = omega arith;
      waits = first_holds (λ d. busy (on p d)) tenants h;
      nearest = λ u hu b.
          rw (ahead_on p (distance busy p) hp h)
          (first_least (λ d. busy (on p d)) tenants (ahead p u) (ahead_less p u) (rw (on_ahead p u hp hu) b));
    }

    distance_none : tenants ≤ distance busy p → (t : ℕ) → t < tenants → busy t ≡ false
    unfolding distance
    distance_none h t ht =
        rw (on_ahead p t hp ht) at (first_before (λ d. busy (on p d)) tenants (ahead p t) (omega (arith, ahead_less p t)))

    pub serves : Serves (served_by busy p)
    serves = elim (order (distance busy p) tenants) [
      | less h ↦ rw (served_lane h) (distance_first h)
      | equal h ↦ rw (served_nobody (omega arith)) (distance_none (omega arith))
      | more h ↦ rw (served_nobody (omega arith)) (distance_none (omega arith))
    ]

    -- at most one lane is the first non-empty one
    pub first_busy_unique : (t u : ℕ) → FirstBusy busy p t → FirstBusy busy p u → t ≡ u
    first_busy_unique t u a b =
        ahead_same p t u hp a.lane b.lane (omega (arith, a.nearest u b.lane b.waits, b.nearest t a.lane a.waits))

    -- a lane is served exactly where it is the first non-empty one
    pub served_first : (t : ℕ) → (served_by busy p ≡ Some t) ↔ FirstBusy busy p t
    served_first t = (λ e. rw e at serves, go (served_by busy p) serves)
      where
        go : (s : Option ℕ) → Serves s → FirstBusy busy p t → s ≡ Some t
        go (Some u) r a = ap Some (first_busy_unique u t r a)
        go None r a = absurd (holds_not_fails a.waits (r t a.lane))

    -- and nobody exactly where no lane has an entry
    pub served_none : (served_by busy p ≡ None) ↔ ((t : ℕ) → t < tenants → busy t ≡ false)
    served_none = (λ e. rw e at serves, go (served_by busy p) serves)
      where
        go : (s : Option ℕ) → Serves s → ((t : ℕ) → t < tenants → busy t ≡ false) → s ≡ None
        go (Some u) r h = absurd (holds_not_fails r.waits (h u r.lane))
        go None r h = refl
