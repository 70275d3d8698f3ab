-- The rotation is fair over any run: no lane gets more than one turn above a lane that has an entry before each of
-- them, so that such a lane gets a ninth of the turns.
use Rattle.std.specs.Prelude.{◌≡◌, refl, Bool, ◌≢◌, ℕ, ◌+◌, ◌*◌, ◌-◌, ◌/◌, ◌≤◌, ◌<◌, ltb, length, Option, Some, None}
use Rattle.std.proofs.Common.{sym, ◌∙◌, ap, eq-eqb, ne_eqb, lt-ltb, le-ltb}
use mathlib.Core.List.{List, [], ◌∷◌}
use Rattle.std.proofs.Math.Decide.{ℕ_discrete}
use native.Mathlib.Omega.{arith}
use Rattle.units.specs.Units.{tenants}
use Rattle.units.specs.Tests.{holds_not_fails, order, less, equal, more}
use Rattle.units.specs.Sums.{sum_to, sum_le, sum_add, sum_none, sum_only, sum_less}
use Rattle.units.specs.Picked.{keep, keep_most}
use Rattle.lanes.specs.Rotation.{on, served_by}
use Rattle.lanes.specs.Runs.{ahead, FirstBusy, moved, counts_for, turns, Always}
use Rattle.lanes.specs.RotationLaws.{ahead_less, ahead_same, Serves, serves}

-- x is y but for some times round
abbrev Wraps : ℕ → ℕ → Type 0
Wraps x y = (k : ℕ) × (x ≡ y + tenants * k)

ahead_wraps : (p t : ℕ) → p < tenants → t < tenants → Wraps (p + ahead p t) t
unfolding ahead
ahead_wraps p t hp ht = (1 - (t + tenants - p) / tenants, omega arith)

next_wraps : (t : ℕ) → Wraps (t + 1) (on t 1)
next_wraps t = ((t + 1) / tenants, omega arith)

next_less : (t : ℕ) → on t 1 < tenants
next_less t = omega arith

-- as ahead-next says, over plain numbers
round : (p t u q a b c : ℕ) → Wraps (t + 1) q → Wraps (p + a) t → Wraps (p + b) u → Wraps (q + c) u → a < tenants → b < tenants → c < tenants
    → (a < b → c + a + 1 ≡ b) × (b ≤ a → c + a ≡ b + 8)
round p t u q a b c i j k l ha hb hc = omega arith

-- once lane t is served, a lane past it has come nearer, and one up to it has gone to the end
ahead_next : (p t u : ℕ) → p < tenants → t < tenants → u < tenants
    → (ahead p t < ahead p u → ahead (on t 1) u + ahead p t + 1 ≡ ahead p u) × (ahead p u ≤ ahead p t → ahead (on t 1) u + ahead p t ≡ ahead p u + 8)
ahead_next p t u hp ht hu =
    round p t u (on t 1) (ahead p t) (ahead p u) (ahead (on t 1) u)
    (next_wraps t) (ahead_wraps p t hp ht) (ahead_wraps p u hp hu) (ahead_wraps (on t 1) u (next_less t) hu)
    (ahead_less p t) (ahead_less p u) (ahead_less (on t 1) u)

-- 1 if lane u comes before lane t from the place on, else 0: by so much u may get above t
unfoldable lead : ℕ → ℕ → ℕ → ℕ
lead p u t = keep (ltb (ahead p u) (ahead p t)) 1

lead_one : (p u t : ℕ) → ahead p u < ahead p t → lead p u t ≡ 1
unfolding lead
lead_one p u t h = simp (lt-ltb _ _ h)

lead_none : (p u t : ℕ) → ahead p t ≤ ahead p u → lead p u t ≡ 0
unfolding lead
lead_none p u t h = simp (le-ltb _ _ h)

lead_most : (p u t : ℕ) → lead p u t ≤ 1
unfolding lead
lead_most p u t = keep_most (ltb (ahead p u) (ahead p t)) 1

counts_own : (u t : ℕ) → t ≡ u → counts_for u (Some t) ≡ 1
counts_own u t h = simp (eq-eqb _ _ h)

counts_other : (u t : ℕ) → t ≢ u → counts_for u (Some t) ≡ 0
counts_other u t h = simp (ne_eqb _ _ h)

module _ (t u : ℕ) (ht : t < tenants) (hu : u < tenants) (apart : u ≢ t) where
  -- a turn of lane l, with the lead before it and the lead after it
  abbrev Step : ℕ → ℕ → Type 0
  Step p l = counts_for u (Some l) + lead (on l 1) u t ≤ counts_for t (Some l) + lead p u t

  lead_step : (busy : ℕ → Bool) (p l : ℕ) → p < tenants → FirstBusy busy p l → ahead p l ≤ ahead p t → Step p l
  lead_step busy p l hp r near = elim (ℕ_discrete l u) [
    | yes e ↦
        let same : ahead p l ≡ ahead p u = ap (ahead p) e in
        let differ : ahead p u ≢ ahead p t = λ q. apart (ahead_same p u t hp hu ht q) in
        let before : ahead p l < ahead p t = omega arith in
        let nearer = (ahead_next p l t hp r.lane ht).0 before in
        let last = (ahead_next p l u hp r.lane hu).1 (omega arith) in
        omega (arith, lead_none (on l 1) u t (omega (arith, ahead_less p t)), lead_one p u t (omega arith), counts_own u l e, counts_other t l (λ q. apart (sym e ∙ q)))
    | no d ↦ elim (ℕ_discrete l t) [
      | yes e ↦ omega (arith, counts_other u l d, counts_own t l e, lead_most (on l 1) u t)
      | no f ↦ elim (order (ahead p u) (ahead p t)) [
        | less h ↦ omega (arith, counts_other u l d, counts_other t l f, lead_most (on l 1) u t, lead_one p u t h)
        | equal h ↦ absurd (apart (ahead_same p u t hp hu ht h))
        | more h ↦
            let differ : ahead p l ≢ ahead p t = λ q. f (ahead_same p l t hp r.lane ht q) in
            let before : ahead p l < ahead p t = omega arith in
            let nearer = (ahead_next p l t hp r.lane ht).0 before in
            let nearer' = (ahead_next p l u hp r.lane hu).0 (omega arith) in
            omega (arith, counts_other u l d, counts_other t l f, lead_none (on l 1) u t (omega arith))
      ]
    ]
  ]

  lead_run : (run : List (ℕ → Bool)) (p : ℕ) → p < tenants → Always t run → turns u p run ≤ turns t p run + lead p u t
  unfolding turns
  lead_run [] p hp h = omega arith
  lead_run (busy ∷ run) p hp h = go (served_by busy p) (serves busy p hp) (λ q hq. lead_run run q hq h.1)
    where
      go : (s : Option ℕ) → Serves busy p s → ((q : ℕ) → q < tenants → turns u q run ≤ turns t q run + lead q u t)
          → counts_for u s + turns u (moved p s) run ≤ counts_for t s + turns t (moved p s) run + lead p u t
      go (Some l) r rest = omega (arith, lead_step busy p l hp r (r.nearest t ht h.0), rest (on l 1) (next_less l))
      go None r rest = absurd (holds_not_fails h.0 (r t ht))

-- no lane has more than one turn above a lane that has an entry before each turn
pub fair : (t u p : ℕ) (run : List (ℕ → Bool)) → t < tenants → u < tenants → p < tenants → Always t run → turns u p run ≤ turns t p run + 1
fair t u p run ht hu hp h = elim (ℕ_discrete u t) [
  | yes e ↦ omega (arith, ap (λ k. turns k p run) e)
  | no d ↦ omega (arith, lead_run t u ht hu d run p hp h, lead_most p u t)
]

-- every turn of such a run is some lane's
turns_all : (t : ℕ) → t < tenants → (run : List (ℕ → Bool)) (p : ℕ) → p < tenants → Always t run → sum_to (λ u. turns u p run) tenants ≡ length run
unfolding turns
turns_all t ht [] p hp h = sum_none tenants (λ i q. refl)
turns_all t ht (busy ∷ run) p hp h = go (served_by busy p) (serves busy p hp) (λ q hq. turns_all t ht run q hq h.1)
  where
    go : (s : Option ℕ) → Serves busy p s → ((q : ℕ) → q < tenants → sum_to (λ u. turns u q run) tenants ≡ length run)
        → sum_to (λ u. counts_for u s + turns u (moved p s) run) tenants ≡ length (busy ∷ run)
    go (Some l) r rest =
        let one = sum_only (λ u. counts_for u (Some l)) tenants l r.lane (λ j q d. counts_other j l (λ e. d (sym e))) in
        let both = sum_add (λ u. counts_for u (Some l)) (λ u. turns u (on l 1) run) {s = λ u. counts_for u (Some l) + turns u (on l 1) run} tenants (λ i q. refl) in
        omega (arith, one, both, counts_own l l refl, rest (on l 1) (next_less l))
    go None r rest = absurd (holds_not_fails h.0 (r t ht))

-- a lane that has an entry before each of n turns gets at least n/9 of them
pub share : (t p : ℕ) (run : List (ℕ → Bool)) → t < tenants → p < tenants → Always t run → length run / tenants ≤ turns t p run
share t p run ht hp h =
    let mine = turns t p run in
    let others = sum_less {f = λ u. turns u p run} {g = λ u. mine + 1} tenants t (λ u q. fair t u p run ht q hp h) ht (omega arith) in
    omega (arith, turns_all t ht run p hp h, sum_le (λ u. mine + 1) (mine + 1) tenants (λ i q. omega arith))
