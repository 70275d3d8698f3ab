-- Laws of what a row trades, told by the edge.
use Rattle.std.specs.Prelude.{◌≡◌, ℕ, ◌+◌, ◌<◌, ltb}
use Rattle.std.proofs.Common.{arith}
use borrow.Author.Tests.{lt-ltb, le-ltb}
use Rattle.units.specs.Picked.{keep}
use Rattle.levels.specs.Levels.{whole_of}
use Rattle.allocation.specs.Shares.{to_edge, share_at}
use Rattle.allocation.specs.declared.shares.Portions.{Portions}

module _ (t : Portions) (size rank : ℕ) where
  pub share_free : size ≡ 0 → share_at t size rank ≡ 0
  unfolding share_at
  share_free z = simp (le-ltb 0 size (omega arith))

  pub share_is : 0 < size → share_at t size rank ≡ whole_of t.left.0 size t.total.0 + keep (ltb rank t.spare.0) 1
  unfolding share_at
  share_is x = simp (lt-ltb 0 size x)

module _ (k m size here : ℕ) where
  pub edge_before : k < m → to_edge k m size here ≡ size
  unfolding to_edge
  edge_before h = simp (lt-ltb k m h)

  pub edge_at : k ≡ m → to_edge k m size here ≡ here
  unfolding to_edge
  edge_at h = simp (le-ltb k m (omega arith), le-ltb m k (omega arith))

  pub edge_beyond : m < k → to_edge k m size here ≡ 0
  unfolding to_edge
  edge_beyond h = simp (le-ltb k m (omega arith), lt-ltb m k h)
