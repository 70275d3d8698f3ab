-- What a row trades, told by the edge, is what the allocation gives it.
use Rattle.std.specs.Prelude.{◌≡◌, List, []}
use Rattle.std.proofs.Math.Path.{sym}
use Rattle.std.proofs.Common.{◌∙◌, eq-eqb, ne_eqb}
use Prim.Native.Nat.{ℕ, ◌<◌, min}
use native.Mathlib.Omega.{arith}
use Rattle.units.specs.Tests.{order, less, equal, more}
use Rattle.units.specs.Sums.{sum_to}
use Rattle.units.specs.Picked.{same}
use Rattle.units.specs.Places.{at, table, table_same}
use Rattle.rows.specs.Rows.{rows}
use Rattle.levels.specs.Levels.{larger}
use Rattle.allocation.specs.Edge.{AtEdge}
use Rattle.allocation.specs.Shares.{to_edge, time_share, portions_at, proportion_share}
use Rattle.allocation.specs.ShareLaws.{share_free, share_is, edge_before, edge_at, edge_beyond}
use Rattle.allocation.specs.declared.reach.Edge.{Edge}
use Rattle.book.specs.Book.{book_of}
use Rattle.book.specs.Allocation.{Resting, Class, time, proportion, class_of, fill}
use Rattle.book.specs.AllocationLaws.{Distinct}
use Rattle.book.specs.Trading.{reach}
use Rattle.book.specs.Fit.{Apart}
use Rattle.book.specs.FitLaws.{open_apart}
use Rattle.book.specs.FillLaws.{fill_free, rank_is, fill_better, fill_worse, fill_earlier, fill_later, fill_last, fill_in_proportion}

module _ (r : Resting) (q : ℕ) (d : Distinct r) (i : ℕ) (p : i < r.places) where
  open r use {places, size, key, number}

  -- it is enough to tell what a row at the edge trades
  by_edge : (m rest here : ℕ) (c : Class) → AtEdge places key size q m rest → (key i ≡ m → here ≡ fill r q c i)
      → to_edge (key i) m (size i) here ≡ fill r q c i
  by_edge m rest here c reach h = elim (order (key i) m) [
    | less l ↦ edge_before (key i) m (size i) here l ∙ sym (fill_better r q m rest reach d c i p l)
    | equal l ↦ edge_at (key i) m (size i) here l ∙ h l
    | more l ↦ edge_beyond (key i) m (size i) here l ∙ sym (elim (order 0 (size i)) [
      | less x ↦ fill_worse r q m rest reach d c i p x l
      | equal x ↦ fill_free r q c i (sym x)
      | more x ↦ omega arith
    ])
  ]

  module _ (m : Edge) (reach : AtEdge places key size q m.key m.left.0) where
    pub time_share_is : (line : Edge) → AtEdge places number (same key m.key size) m.left.0 line.key line.left.0
        → time_share m.key line.key line.left.0 (key i) (size i) (number i) ≡ fill r q time i
    unfolding time_share
    time_share_is line turn =
        let last = min (size i) line.left.0 in
        by_edge m.key m.left.0 (to_edge (number i) line.key (size i) last) time reach (λ e. elim (order (number i) line.key) [
          | less l ↦ edge_before (number i) line.key (size i) last l ∙ sym (fill_earlier r q m.key m.left.0 reach line.key line.left.0 turn i p e l)
          | equal l ↦ edge_at (number i) line.key (size i) last l ∙ sym (fill_last r q m.key m.left.0 reach line.key line.left.0 turn i p e l)
          | more l ↦ edge_beyond (number i) line.key (size i) last l ∙ sym (elim (order 0 (size i)) [
            | less x ↦ fill_later r q m.key m.left.0 reach line.key line.left.0 turn i p e x l
            | equal x ↦ fill_free r q time i (sym x)
            | more x ↦ omega arith
          ])
        ])

    pub proportion_share_is : proportion_share (portions_at places key size m) (key i) (size i) (sum_to (larger key size number m.key (size i) (number i)) places)
        ≡ fill r q proportion i
    unfolding proportion_share portions_at
    proportion_share_is = by_edge m.key m.left.0 _ proportion reach (λ e. elim (order 0 (size i)) [
      | less x ↦ share_is _ (size i) _ x ∙ sym (rw (rank_is, e) at (fill_in_proportion r q m.key m.left.0 reach i p x e))
      | equal x ↦ share_free _ (size i) _ (sym x) ∙ sym (fill_free r q proportion i (sym x))
      | more x ↦ omega arith
    ])

-- the columns of what each row trades
module _ (side bound q allocation : ℕ) (sides prices sizes numbers : List ℕ) (apart : Apart sizes numbers) (m : Edge) where
  abbrev rs : Resting
  rs = reach (book_of sides prices sizes [] numbers) side bound

  module _ (edge : AtEdge rows rs.key rs.size q m.key m.left.0) where
    pub shares_by_time : (line : Edge) → AtEdge rows (at numbers) (same rs.key m.key rs.size) m.left.0 line.key line.left.0 → allocation ≡ 1
        → table (λ i. time_share m.key line.key line.left.0 (rs.key i) (rs.size i) (at numbers i)) rows ≡ table (fill rs q (class_of allocation)) rows
    unfolding class_of
    shares_by_time line turn e = simp (eq-eqb allocation 1 e)
        (table_same rows (λ i p. time_share_is rs q (open_apart side bound sides prices sizes numbers apart) i p m edge line turn))

    pub shares_in_proportion : (allocation ≡ 1 → ⊥)
        → table (λ i. proportion_share (portions_at rows rs.key rs.size m) (rs.key i) (rs.size i) (sum_to (larger rs.key rs.size (at numbers) m.key (rs.size i) (at numbers i)) rows)) rows
        ≡ table (fill rs q (class_of allocation)) rows
    unfolding class_of
    shares_in_proportion e = simp (ne_eqb allocation 1 e)
        (table_same rows (λ i p. proportion_share_is rs q (open_apart side bound sides prices sizes numbers apart) i p m edge))
