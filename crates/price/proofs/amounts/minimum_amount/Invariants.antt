-- What the loop of `price::amounts::minimum_amount` keeps.
use mathlib.Core.Path.{◌≡◌}
use Prim.Native.Nat.{◌≤◌, ◌<◌}
use lib.ListN.{drop}
use Rattle.units.specs.Units.{most32}
use Rattle.price.specs.Amounts.{minimum_amount}
use Rattle.price.specs.AmountLaws.{rows, lookup}
use Rattle.price.proofs.amounts.minimum_amount.Given as goal

abbrev pub invariant-loop-row : goal.invariant-loop-row
invariant-loop-row l = (l.row-index < 7) × (l.nbb.0 ≤ most32 → minimum_amount l.nbb.0 ≡ lookup (drop l.row-index rows) l.nbb.0)
