-- Laws of the rows gathered: the loop that does it, and that the edge of an order, and the whole parts of its shares,
-- are the same among them as among all rows.
use Rattle.std.specs.Prelude.{◌≡◌, refl, List, Bool, ℕ, suc, ◌+◌, ◌≤◌, ◌<◌, leb, ltb, eqb, length, set}
use Rattle.std.proofs.Common.{sym, ap, ◌∙◌, add-zero, arith, length-set, get_or-set_same, get_or-set_other, lt-ltb, le-ltb, le-leb}
use Rattle.std.proofs.Math.Decide.{dec_lt}
use Rattle.std.proofs.lemmas.Bool.{lt-leb}
use Rattle.units.specs.Tests.{order, less, equal, more}
use Rattle.units.specs.Sums.{sum_to, sum_zero, sum_next, sum_same, sum_has, sum_found}
use Rattle.units.specs.Picked.{keep, keep_none, same, lower}
use Rattle.units.specs.Places.{at}
use Rattle.rows.specs.Rows.{rows}
use Rattle.levels.specs.Levels.{whole_of, wholes}
use Rattle.levels.specs.LevelLaws.{whole_none, whole_kept}
use Rattle.marks.specs.Marks.{over}
use Rattle.allocation.specs.Edge.{EdgeAt}
use Rattle.allocation.specs.Ranges.{KeysBelow}
use Rattle.allocation.specs.Gathering.{put_after, over_both, Gathered, Collected}

-- one more after the first n of two lists: the sum has it too
sum_set : (f : ℕ → ℕ → ℕ) (keys held : List ℕ) (n k v : ℕ) → n < length keys → n < length held
    → sum_to (over_both f (set keys n k) (set held n v)) (n + 1) ≡ sum_to (over_both f keys held) n + f k v
unfolding over_both
sum_set f keys held n k v p q =
    let both = over_both f (set keys n k) (set held n v) in
    let others = sum_same {f = both} {g = over_both f keys held} n λ j x.
    rw (get_or-set_other keys n j k 0 (omega arith), get_or-set_other held n j v 0 (omega arith)) refl in
    let here : both n ≡ f k v = rw (get_or-set_same keys n k 0 p, get_or-set_same held n v 0 q) refl in
    omega (arith, sum_next both n, others, here)

module _ (key size : ℕ → ℕ) where
  abbrev told : (ℕ → ℕ → ℕ) → ℕ → ℕ
  told f j = f (key j) (size j)

  pub gather_starts : (keys held : List ℕ) → length keys ≡ rows → length held ≡ rows → Gathered key size 0 keys held 0
  gather_starts keys held p q = record {
    keyed = p;
    long = q;
    few = omega arith;
    passed = omega arith;
    gathered = λ f z. sum_zero (over_both f keys held) ∙ sym (sum_zero (told f));
  }

  -- a row that holds nothing adds nothing
  gather_stays : (i : ℕ) (keys held : List ℕ) (n : ℕ) → Gathered key size i keys held n → i < rows → size i ≡ 0
      → Gathered key size (i + 1) keys held n
  gather_stays i keys held n w h e = record {
    keyed = w.keyed;
    long = w.long;
    few = omega (arith, w.few);
    passed = omega arith;
    gathered = λ f z. omega (arith, w.gathered f z, sum_next (told f) i, ap (f (key i)) e ∙ z (key i));
  }

  -- one that holds something stands after the others
  gather_grows : (i : ℕ) (keys held : List ℕ) (n : ℕ) → Gathered key size i keys held n → i < rows
      → Gathered key size (i + 1) (set keys n (key i)) (set held n (size i)) (n + 1)
  gather_grows i keys held n w h = record {
    keyed = length-set keys n (key i) ∙ w.keyed;
    long = length-set held n (size i) ∙ w.long;
    few = omega (arith, w.few);
    passed = omega arith;
    gathered = λ f z.
        omega (arith, sum_set f keys held n (key i) (size i) (omega (arith, w.few, w.keyed)) (omega (arith, w.few, w.long)), w.gathered f z, sum_next (told f) i);
  }

  -- a row is taken where it holds something, and then its size is kept
  pub gather_goes_on : (i : ℕ) (keys held keys' held' : List ℕ) (n n' k s : ℕ) (taken : Bool)
      → Gathered key size i keys held n → i < rows → taken ≡ ltb 0 (size i) → k ≡ key i → (0 < size i → s ≡ size i)
      → keys' ≡ put_after taken k keys n → held' ≡ put_after taken s held n → n' ≡ n + keep taken 1
      → Gathered key size (i + 1) keys' held' n'
  unfolding put_after
  gather_goes_on i keys held keys' held' n n' k s taken w h t e d f g m = rw (f, g, m, t, e) (elim (order 0 (size i)) [
    | less x ↦ rw (lt-ltb 0 (size i) x, d x) (gather_grows i keys held n w h)
    | equal x ↦ rw (le-ltb 0 (size i) (omega arith), add-zero) (gather_stays i keys held n w h (sym x))
    | more x ↦ absurd (omega arith)
  ])

  pub gather_ends : (i : ℕ) (keys held : List ℕ) (n : ℕ) → Gathered key size i keys held n → rows ≤ i → Gathered key size rows keys held n
  gather_ends i keys held n w h = let e : i ≡ rows = omega (arith, w.passed) in rw e at w

-- what is held at the places whose key is from c on, and 0 at the others
abbrev from : (ℕ → ℕ) → ℕ → (ℕ → ℕ) → ℕ → ℕ
from key c size i = keep (leb c (key i)) (size i)

-- where as much is held from a key on among m places as among n others, and one of these holds something there, one of
-- those does
from_found : (key size key' size' : ℕ → ℕ) (n m c i : ℕ) → sum_to (from key c size) n ≡ sum_to (from key' c size') m
    → i < n → 0 < size i → c ≤ key i → (j : ℕ) × (j < m) × (0 < size' j) × (c ≤ key' j)
from_found key size key' size' n m c i e p x h =
    let here : from key c size i ≡ size i = rw (le-leb c (key i) h) refl in
    let (j, q, y) = sum_found (from key' c size') m (omega (arith, here, sum_has (from key c size) n i p)) in
    elim (dec_lt (key' j) c) [
      | yes l ↦ absurd (omega (arith, ap (λ b. keep b (size' j)) (lt-leb c (key' j) l)))
      | no l ↦ (j, q, omega (arith, ap (λ b. keep b (size' j)) (le-leb c (key' j) (omega arith))), omega arith)
    ]

-- sums over the rows gathered are those over all rows
module _ (key size : ℕ → ℕ) (keys held : List ℕ) (n : ℕ) (w : Gathered key size rows keys held n) where
  gathered_all : sum_to (at held) n ≡ sum_to size rows
  unfolding over_both
  gathered_all = w.gathered (λ _ s. s) (λ _. refl)

  gathered_lower : (c : ℕ) → sum_to (lower (at keys) c (at held)) n ≡ sum_to (lower key c size) rows
  unfolding over_both lower
  gathered_lower c = w.gathered (λ k s. keep (ltb k c) s) (λ k. keep_none (ltb k c))

  gathered_from : (c : ℕ) → sum_to (from (at keys) c (at held)) n ≡ sum_to (from key c size) rows
  unfolding over_both
  gathered_from c = w.gathered (λ k s. keep (leb c k) s) (λ k. keep_none (leb c k))

  -- so no key gathered is past the last, where none of the rows' is,
  pub gathered_below : (top : ℕ) → ((i : ℕ) → i < rows → 0 < size i → key i < top) → KeysBelow top n keys held
  gathered_below top h j p x = elim (dec_lt (at keys j) top) [
    | yes q ↦ q
    | no q ↦ let (i, r, y, l) = from_found (at keys) (at held) key size n rows top j (gathered_from top) p x (omega arith) in absurd (omega (arith, h i r y))
  ]

  -- and the edge of an order is the same
  pub gathered_edge : (top q m left : ℕ) → EdgeAt n top (at keys) (at held) q m left → EdgeAt rows top key size q m left
  gathered_edge top q m left e = record {
    at_edge = record {
      reaches = omega (arith, e.at_edge.reaches, gathered_lower m);
      short = λ i p x h. let (j, r, y, l) = from_found key size (at keys) (at held) rows n m i (sym (gathered_from m)) p x h in omega (arith, e.at_edge.short j r y l, gathered_lower (suc m));
    };
    past = λ all. e.past (omega (arith, gathered_all));
  }

-- the whole parts of the shares of those collected are those of the level
pub collected_parts : (key size : ℕ → ℕ) (c left total : ℕ) (l : List ℕ) (n : ℕ) → Collected (same key c size) rows l n
    → sum_to (over (λ s. whole_of left s total) l) n ≡ sum_to (same key c (wholes left total size)) rows
unfolding same over over_both
collected_parts key size c left total l n w =
    w.gathered (λ _ s. whole_of left s total) (λ _. sym (whole_none left 0 total (omega arith)))
    ∙ sum_same rows (λ i p. sym (whole_kept (eqb (key i) c) left (size i) total))
