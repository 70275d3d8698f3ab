-- The edge of an order: the first key whose places hold more than reaches them. Better keys are filled whole, and
-- nothing reaches worse ones.
use Rattle.std.specs.Prelude.{◌≡◌, ℕ, suc, ◌+◌, ◌≤◌, ◌<◌}
use Rattle.units.specs.Sums.{sum_to}
use Rattle.units.specs.Picked.{lower}

-- Among n places, m is the edge of an order of q contracts, and `left` is what reaches it. Where the order fills all
-- there is, m is past every key.
pub record AtEdge (n : ℕ) (key size : ℕ → ℕ) (q m left : ℕ) : Type 0 where
  pub reaches : left + sum_to (lower key m size) n ≡ q
  pub short : (i : ℕ) → i < n → 0 < size i → m ≤ key i → q < sum_to (lower key (suc m) size) n

-- The one edge of an order: where it fills all there is, the edge is `top`, which is past every key.
pub record EdgeAt (n top : ℕ) (key size : ℕ → ℕ) (q m left : ℕ) : Type 0 where
  pub at_edge : AtEdge n key size q m left
  pub past : sum_to size n ≤ q → m ≡ top
