-- Where entries stand in the rings, and what storing a bulk of them changes.
use Rattle.std.specs.Prelude.{◌≡◌, ◌≢◌, List, [], ◌∷◌, ◌++◌, length, set}
use Rattle.std.proofs.Math.Path.{refl, ap}
use Rattle.std.proofs.Common.{sym, ◌∙◌, arith}
use Prim.Native.Nat.{ℕ, zero, suc, ◌+◌, ◌-◌, ◌*◌, ◌%◌, ◌≤◌, ◌<◌, min}
use Rattle.std.proofs.Math.Numerals.{add-one}
use Rattle.std.proofs.Math.ListN.{get_or-eq_default, get_or-map}
use Rattle.std.proofs.lemmas.List.{map-set}
use Rattle.std.proofs.lemmas.List.Edits.{sets}
use Rattle.std.proofs.Math.Seq.{length-sets, map-set_same}
use Rattle.units.specs.Units.{tenants}
use Rattle.units.specs.Places.{at, table, table_length, table_at, table_same, sets_old, sets_new}
use Rattle.units.specs.Tests.{order, less, equal, more}
use Rattle.entry.specs.Numbers.{entry_numbers}
use Rattle.lanes.specs.declared.Lanes.{Lanes}
use Rattle.lanes.specs.Ring.{depth, all_entries, entry_of, number_of, entry_at, lane_of, heads, lens, head_of, len_of, slot, put, put_all, joined, taken}

-- the heads of all lanes, and the head of lane t
module _ (l : Lanes) (t : ℕ) where
  pub head_at : head_of l t ≡ at (heads l) t
  head_at = sym (get_or-map (λ x. x.head) l.lanes t (lane_of 0 0))

-- where n more wait in lane t, no head moves, and lane t alone is longer
module _ (l : Lanes) (t n : ℕ) where
  pub heads_joined : heads (joined l t n) ≡ heads l
  unfolding joined
  heads_joined = map-set_same (λ x. x.head) l.lanes t (lane_of (head_of l t) (len_of l t + n)) (lane_of 0 0) refl

  pub lens_joined : lens (joined l t n) ≡ set (lens l) t (len_of l t + n)
  unfolding joined
  lens_joined = map-set (λ x. x.len) l.lanes t (lane_of (head_of l t) (len_of l t + n))

  pub head_joined : (u : ℕ) → head_of (joined l t n) u ≡ head_of l u
  head_joined u = head_at (joined l t n) u ∙ ap (λ hs. at hs u) heads_joined ∙ sym (head_at l u)

-- where a turn is taken of lane t, its head alone moves, and it alone is shorter
module _ (l : Lanes) (t : ℕ) where
  pub heads_taken : heads (taken l t) ≡ set (heads l) t ((head_of l t + 1) % depth)
  unfolding taken
  heads_taken = map-set (λ x. x.head) l.lanes t (lane_of ((head_of l t + 1) % depth) (len_of l t - 1))

  pub lens_taken : lens (taken l t) ≡ set (lens l) t (len_of l t - 1)
  unfolding taken
  lens_taken = map-set (λ x. x.len) l.lanes t (lane_of ((head_of l t + 1) % depth) (len_of l t - 1))

pub slot_within : (t h i : ℕ) → t < tenants → slot t h i < tenants * depth
unfolding slot
slot_within t h i p = omega arith

-- entries of one lane that are less than 64 apart stand at different places
pub slot_apart : (t h i j : ℕ) → i < j → j < i + depth → slot t h i ≢ slot t h j
unfolding slot
slot_apart t h i j p q e = omega arith

-- entries of two lanes stand at different places
pub slot_other : (u t h g i j : ℕ) → u ≢ t → slot u h i ≢ slot t g j
unfolding slot
slot_other u t h g i j n e = omega arith

pub slot_next : (t h i : ℕ) → slot t h (i + 1) ≡ slot t ((h + 1) % depth) i
unfolding slot
slot_next t h i = omega arith

-- an entry that starts past the end is read from the end on alike
pub given_from : (ns : List ℕ) (j : ℕ) → entry_of (table (λ i. at ns (min (j * entry_numbers) (length ns) + i)) entry_numbers) ≡ entry_at ns j
unfolding entry_at
given_from ns j = ap entry_of (table_same entry_numbers (λ i p. same i))
  where
    same : (i : ℕ) → at ns (min (j * entry_numbers) (length ns) + i) ≡ number_of ns j i
    same i = elim (order (j * entry_numbers) (length ns)) [
      | less h ↦ (let e : min (j * entry_numbers) (length ns) ≡ j * entry_numbers = omega arith in rw e)
      | equal h ↦ (let e : min (j * entry_numbers) (length ns) ≡ j * entry_numbers = omega arith in rw e)
      | more h ↦ get_or-eq_default ns 0 (omega arith) ∙ sym (get_or-eq_default ns 0 (omega arith))
    ]

-- a run of numbers stored from place i on, and one more behind it
sets_last : (vs l : List ℕ) (i v : ℕ) → sets l i (vs ++ (v ∷ [])) ≡ set (sets l i vs) (i + length vs) v
sets_last [] l i v = let e : i + 0 ≡ i = omega arith in rw e
sets_last (x ∷ vs) l i v = let e : i + suc (length vs) ≡ suc i + length vs = omega arith in rw e (sets_last vs (set l i x) (suc i) v)

module _ (entries : List ℕ) (k : ℕ) (ns : List ℕ) (j : ℕ) where
  -- a loop that stores the numbers of entry j one by one: the first i of them are stored
  abbrev pub put_to : ℕ → List ℕ
  put_to i = sets entries (k * entry_numbers) (table (number_of ns j) i)

  pub put_none : put_to 0 ≡ entries
  unfolding table
  put_none = refl

  pub put_next : (i : ℕ) → set (put_to i) (k * entry_numbers + i) (number_of ns j i) ≡ put_to (i + 1)
  unfolding table
  put_next i =
      let long = table_length (number_of ns j) i in
      rw add-one (sym (rw long at (sets_last (table (number_of ns j) i) entries (k * entry_numbers) (number_of ns j i))))

  pub put_length : length (put entries k ns j) ≡ length entries
  unfolding put
  put_length = length-sets entries (k * entry_numbers) (table (number_of ns j) entry_numbers)

  long : length (table (number_of ns j) entry_numbers) ≡ entry_numbers
  long = table_length (number_of ns j) entry_numbers

  -- the entry at any other place stays
  pub put_old : (m : ℕ) → m ≢ k → entry_at (put entries k ns j) m ≡ entry_at entries m
  unfolding entry_at put
  put_old m n =
      ap entry_of (table_same entry_numbers (λ i p. sets_old (table (number_of ns j) entry_numbers) entries (k * entry_numbers) (m * entry_numbers + i) (λ a b. n (omega (arith, long)))))

  -- and at place k stands entry j
  pub put_new : k * entry_numbers + entry_numbers ≤ length entries → entry_at (put entries k ns j) k ≡ entry_at ns j
  unfolding entry_at put
  put_new h =
      ap entry_of (table_same entry_numbers (λ i p.
      sets_new (table (number_of ns j) entry_numbers) entries (k * entry_numbers) i (omega (arith, long)) (omega (arith, long))
      ∙ table_at (number_of ns j) entry_numbers i p))

module _ (l : Lanes) (entries : List ℕ) (t : ℕ) (ns : List ℕ) where
  pub put_all_none : put_all l entries t ns 0 ≡ entries
  unfolding put_all
  put_all_none = refl

  pub put_all_next : (n : ℕ) → put_all l entries t ns (n + 1) ≡ put (put_all l entries t ns n) (slot t (head_of l t) (len_of l t + n)) ns n
  unfolding put_all
  put_all_next n = rw add-one

  pub put_all_length : (n : ℕ) → length (put_all l entries t ns n) ≡ length entries
  unfolding put_all
  put_all_length zero = refl
  put_all_length (suc n) = put_length (put_all l entries t ns n) _ ns n ∙ put_all_length n

  -- an entry stays where none of the bulk is put
  pub put_all_old : (n m : ℕ) → ((j : ℕ) → j < n → m ≢ slot t (head_of l t) (len_of l t + j)) → entry_at (put_all l entries t ns n) m ≡ entry_at entries m
  unfolding put_all
  put_all_old zero m out = refl
  put_all_old (suc n) m out =
      put_old (put_all l entries t ns n) _ ns n m (out n (omega arith)) ∙ put_all_old n m (λ j p. out j (omega arith))

  -- and entry j of the bulk stands j behind those that waited
  pub put_all_new : t < tenants → length entries ≡ all_entries → (n j : ℕ) → n ≤ depth → j < n
      → entry_at (put_all l entries t ns n) (slot t (head_of l t) (len_of l t + j)) ≡ entry_at ns j
  unfolding put_all
  put_all_new lane long zero j most p = absurd (omega arith)
  put_all_new lane long (suc n) j most p = elim (order j n) [
    | less q ↦
        put_old (put_all l entries t ns n) _ ns n (slot t (head_of l t) (len_of l t + j)) (slot_apart t (head_of l t) _ _ (omega arith) (omega arith))
        ∙ put_all_new lane long n j (omega arith) q
    | equal q ↦
        rw q (put_new (put_all l entries t ns n) (slot t (head_of l t) (len_of l t + n)) ns n
        (omega (arith, put_all_length n, slot_within t (head_of l t) (len_of l t + n) lane)))
    | more q ↦ absurd (omega arith)
  ]
