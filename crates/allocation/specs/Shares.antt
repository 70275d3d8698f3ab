-- What a row trades, told by the edge of the order.
use Rattle.std.specs.Prelude.{cond, ℕ, ◌+◌, ◌-◌, min, ltb}
use Rattle.units.specs.Units.{total}
use Rattle.units.specs.Sums.{sum_to}
use Rattle.units.specs.Picked.{keep, same}
use Rattle.levels.specs.Levels.{whole_of, wholes, larger}
use Rattle.allocation.specs.declared.reach.Edge.{Edge}
use Rattle.allocation.specs.declared.shares.Portions.{Portions}

-- All of a row before the edge m, nothing of one past it, and at it what is said.
unfoldable pub to_edge : ℕ → ℕ → ℕ → ℕ → ℕ
to_edge k m size here = cond (ltb k m) size (cond (ltb m k) 0 here)

-- By time, with the edge at price m, and there at order n with `last` contracts left: for a row of key k and number
-- i.
unfoldable pub time_share : ℕ → ℕ → ℕ → ℕ → ℕ → ℕ → ℕ
time_share m n last k size i = to_edge k m size (to_edge i n size (min size last))

-- so for each row
abbrev pub time_shares : Edge → Edge → (ℕ → ℕ) → (ℕ → ℕ) → (ℕ → ℕ) → ℕ → ℕ
time_shares m line key size number i = time_share m.key line.key line.left.0 (key i) (size i) (number i)

-- In proportion: what rests at the edge among n rows, and what the whole parts of its shares leave over.
unfoldable pub portions_at : ℕ → (ℕ → ℕ) → (ℕ → ℕ) → Edge → Portions
portions_at n key size m = record {
  key = m.key;
  left = m.left;
  total = total (sum_to (same key m.key size) n);
  spare = total (m.left.0 - sum_to (same key m.key (wholes m.left.0 (sum_to (same key m.key size) n) size)) n);
}

-- At the edge a row of the given rank has the whole part of its share, and one more if what is left over reaches it.
unfoldable pub share_at : Portions → ℕ → ℕ → ℕ
share_at t size rank = keep (ltb 0 size) (whole_of t.left.0 size t.total.0 + keep (ltb rank t.spare.0) 1)

-- and elsewhere all or nothing
unfoldable pub proportion_share : Portions → ℕ → ℕ → ℕ → ℕ
proportion_share t k size rank = to_edge k t.key size (share_at t size rank)

-- so for each of n rows, its rank by how many at the edge are larger, or of its size and earlier
abbrev pub proportion_shares : ℕ → Portions → (ℕ → ℕ) → (ℕ → ℕ) → (ℕ → ℕ) → ℕ → ℕ
proportion_shares n t key size number i = proportion_share t (key i) (size i) (sum_to (larger key size number t.key (size i) (number i)) n)
