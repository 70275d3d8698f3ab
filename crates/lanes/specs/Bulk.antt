-- A bulk of entries, as it is given.
use Rattle.std.specs.Prelude.{Bool, List, ℕ, ◌*◌, ltb, eqb, length}
use Rattle.units.specs.Tests.{◌and◌}
use Rattle.units.specs.Firsts.{first_to}
use Rattle.entry.specs.Numbers.{entry_numbers, bulk, from1to}
use Rattle.entry.specs.Entry.{malformed}
use Rattle.lanes.specs.Ring.{entry_at}

-- 3 count not 1 to 20 or not six numbers lent for each entry
unfoldable pub well_counted : ℕ → List ℕ → Bool
well_counted count ns = from1to bulk count and eqb (length ns) (entry_numbers * count)

-- 2 any malformed entry
unfoldable pub some_malformed : ℕ → List ℕ → Bool
some_malformed count ns = ltb (first_to (λ j. malformed (entry_at ns j)) count) count
