-- What a number in its range has.
use Rattle.std.specs.Prelude.{◌≡◌, true, ℕ, ◌≤◌, leb}
use Rattle.std.proofs.Common.{leb-true}
use Rattle.units.specs.Tests.{and_true}
use Rattle.entry.specs.Numbers.{from1to}

pub from1to_bounds : (most n : ℕ) → from1to most n ≡ true → (1 ≤ n) × (n ≤ most)
unfolding from1to
from1to_bounds most n h = let p = and_true (leb 1 n) _ h in (leb-true 1 n p.0, leb-true n most p.1)
