-- The entries that wait in a lane, the oldest first; and what putting a bulk and taking the oldest make of them.
use Rattle.std.specs.Prelude.{◌≡◌, ◌≢◌, List, ◌∷◌, ◌++◌, ℕ, ◌+◌, ◌-◌, ◌%◌, ◌≤◌, ◌<◌, length}
use Rattle.std.proofs.Math.Path.{sym, ap}
use Rattle.std.proofs.Common.{◌∙◌, ap₂, arith}
use Rattle.std.proofs.Math.Decide.{ℕ_discrete}
use Rattle.std.proofs.Math.Seq.{get_or-set_same, get_or-set_other}
use Rattle.std.proofs.lemmas.List.{length-map}
use Rattle.units.specs.Units.{tenants}
use Rattle.units.specs.Tests.{order, less, equal, more}
use Rattle.units.specs.Listed.{listed, listed_same, listed_add, listed_first}
use Rattle.entry.specs.declared.Entry.{Entry}
use Rattle.lanes.specs.declared.Lane.{Lane}
use Rattle.lanes.specs.declared.Lanes.{Lanes}
use Rattle.lanes.specs.Ring.{depth, all_entries, entry_at, lane_of, lane_at, heads, lens, head_of, len_of, slot, waiting_at, put_all, joined, taken}
use Rattle.lanes.specs.RingLaws.{slot_apart, slot_other, slot_next, head_joined, put_all_old, put_all_new}

-- the entries waiting in lane t
unfoldable pub waiting : Lanes → List ℕ → ℕ → List Entry
waiting l entries t = listed (waiting_at l entries t) (len_of l t)

-- the entries of a bulk, as given and in their order
unfoldable pub given_in : List ℕ → ℕ → List Entry
given_in ns count = listed (entry_at ns) count

-- what holds of every entry that waits
abbrev pub EachWaiting : (Entry → Type 0) → Lanes → List ℕ → Type 0
EachWaiting P l entries = (t i : ℕ) → t < tenants → i < len_of l t → P (waiting_at l entries t i)

-- a bulk of n entries put into lane t, behind those waiting
module _ (l : Lanes) (entries : List ℕ) (t : ℕ) (ns : List ℕ) (n : ℕ) where
  abbrev after : ℕ → ℕ → Entry
  after = waiting_at (joined l t n) (put_all l entries t ns n)

  -- the other lanes stay as they are
  len_other : (u : ℕ) → u ≢ t → len_of (joined l t n) u ≡ len_of l u
  unfolding joined
  len_other u d = ap (λ x. x.len) (get_or-set_other l.lanes t u (lane_of (head_of l t) (len_of l t + n)) (lane_of 0 0) d)

  waiting_other : (u i : ℕ) → u ≢ t → after u i ≡ waiting_at l entries u i
  unfolding waiting_at
  waiting_other u i d = rw (head_joined l t n u) (put_all_old l entries t ns n (slot u (head_of l u) i) (λ j p. slot_other u t _ _ i _ d))

  pub put_other : (u : ℕ) → u ≢ t → waiting (joined l t n) (put_all l entries t ns n) u ≡ waiting l entries u
  unfolding waiting
  put_other u d = rw (len_other u d) (listed_same _ _ (len_of l u) (λ i p. waiting_other u i d))

  module _ (lane : t < tenants) (lens_long : length (lens l) ≡ tenants) (long : length entries ≡ all_entries) (room : len_of l t + n ≤ depth) where
    len_own : len_of (joined l t n) t ≡ len_of l t + n
    unfolding joined
    len_own =
        ap (λ x. x.len)
        (get_or-set_same l.lanes t (lane_of (head_of l t) (len_of l t + n)) (lane_of 0 0) (omega (arith, length-map l.lanes (λ x. x.len))))

    waiting_old : (i : ℕ) → i < len_of l t → after t i ≡ waiting_at l entries t i
    unfolding waiting_at
    waiting_old i p =
        rw (head_joined l t n t)
        (put_all_old l entries t ns n (slot t (head_of l t) i) (λ j q. slot_apart t (head_of l t) i _ (omega arith) (omega arith)))

    waiting_new : (j : ℕ) → j < n → after t (len_of l t + j) ≡ entry_at ns j
    unfolding waiting_at
    waiting_new j p = rw (head_joined l t n t) (put_all_new l entries t ns lane long n j (omega arith) p)

    -- in lane t wait those that waited, and then the bulk
    pub put_own : waiting (joined l t n) (put_all l entries t ns n) t ≡ waiting l entries t ++ given_in ns n
    unfolding waiting given_in
    put_own =
        rw (len_own, listed_add)
        (ap₂ (λ a b. a ++ b) (listed_same _ _ (len_of l t) waiting_old) (listed_same _ _ n waiting_new))

    -- what holds of all that waited and of all that are given holds of all that wait
    pub put_each : (P : Entry → Type 0) → EachWaiting P l entries → ((j : ℕ) → j < n → P (entry_at ns j))
        → EachWaiting P (joined l t n) (put_all l entries t ns n)
    put_each P old new u i p h = elim (ℕ_discrete u t) [
      | no d ↦ rw (waiting_other u i d) (old u i p (omega (arith, len_other u d)))
      | yes e ↦
          let q : i < len_of l t + n = rw (e, len_own) at h in
          rw e (elim (order i (len_of l t)) [
            | less s ↦ rw (waiting_old i s) (old t i lane s)
            | equal s ↦ own i (omega arith) q
            | more s ↦ own i (omega arith) q
          ])
    ]
      where
        own : (i : ℕ) → len_of l t ≤ i → i < len_of l t + n → P (after t i)
        own i a b =
            let e : len_of l t + (i - len_of l t) ≡ i = omega arith in
            rw (← e, waiting_new (i - len_of l t) (omega arith)) (new (i - len_of l t) (omega arith))

-- a turn taken of lane t
module _ (l : Lanes) (entries : List ℕ) (t : ℕ) where
  abbrev left : Lane
  left = lane_of ((head_of l t + 1) % depth) (len_of l t - 1)

  taken_len_other : (u : ℕ) → u ≢ t → len_of (taken l t) u ≡ len_of l u
  unfolding taken
  taken_len_other u d = ap (λ x. x.len) (get_or-set_other l.lanes t u left (lane_of 0 0) d)

  taken_waiting_other : (u i : ℕ) → u ≢ t → waiting_at (taken l t) entries u i ≡ waiting_at l entries u i
  unfolding waiting_at taken
  taken_waiting_other u i d = rw (ap (λ x. x.head) (get_or-set_other l.lanes t u left (lane_of 0 0) d))

  -- leaves the other lanes as they are
  pub take_other : (u : ℕ) → u ≢ t → waiting (taken l t) entries u ≡ waiting l entries u
  unfolding waiting
  take_other u d = rw (taken_len_other u d) (listed_same _ _ (len_of l u) (λ i p. taken_waiting_other u i d))

  module _ (lane : t < tenants) (heads_long : length (heads l) ≡ tenants) (lens_long : length (lens l) ≡ tenants) where
    own : lane_at (taken l t) t ≡ left
    unfolding taken
    own = get_or-set_same l.lanes t left (lane_of 0 0) (omega (arith, length-map l.lanes (λ x. x.head)))

    taken_head : head_of (taken l t) t ≡ (head_of l t + 1) % depth
    taken_head = ap (λ x. x.head) own

    taken_len : len_of (taken l t) t ≡ len_of l t - 1
    taken_len = ap (λ x. x.len) own

    taken_waiting : (i : ℕ) → waiting_at (taken l t) entries t i ≡ waiting_at l entries t (i + 1)
    unfolding waiting_at
    taken_waiting i = rw taken_head (ap (entry_at entries) (sym (slot_next t (head_of l t) i)))

    -- takes the oldest entry off the lane, and the rest stay
    pub take_own : 0 < len_of l t → waiting l entries t ≡ waiting_at l entries t 0 ∷ waiting (taken l t) entries t
    unfolding waiting
    take_own some =
        rw taken_len
        (listed_first _ (len_of l t) some
        ∙ ap (λ r. waiting_at l entries t 0 ∷ r) (listed_same _ _ (len_of l t - 1) (λ i p. sym (taken_waiting i))))

    -- what holds of all that waited holds of all that wait
    pub take_each : (P : Entry → Type 0) → EachWaiting P l entries → EachWaiting P (taken l t) entries
    take_each P old u i p h = elim (ℕ_discrete u t) [
      | no d ↦ rw (taken_waiting_other u i d) (old u i p (omega (arith, taken_len_other u d)))
      | yes e ↦
          let q : i < len_of l t - 1 = rw (e, taken_len) at h in
          rw (e, taken_waiting i) (old t (i + 1) lane (omega arith))
    ]
