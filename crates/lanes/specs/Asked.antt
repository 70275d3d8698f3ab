-- What putting entries into a lane and taking one out of it ask; a sound market has all of it.
use Rattle.std.specs.Prelude.{◌≡◌, List, ℕ, ◌+◌, ◌*◌, ◌≤◌, ◌<◌, length}
use Rattle.units.specs.Units.{tenants}
use Rattle.entry.specs.Numbers.{entry_numbers}
use Rattle.lanes.specs.declared.Lanes.{Lanes}
use Rattle.lanes.specs.Ring.{depth, all_entries, head_of, len_of}

-- storing entry j of the numbers ns at place k
pub record CanStore (entries : List ℕ) (k : ℕ) (ns : List ℕ) (j : ℕ) : Type 0 where
  pub long : length entries ≡ all_entries
  pub place : k < tenants * depth
  pub given : j * entry_numbers + entry_numbers ≤ length ns

-- storing the numbers ns of a bulk of count entries in lane t
pub record CanPut (l : Lanes) (entries : List ℕ) (t : ℕ) (ns : List ℕ) (count : ℕ) : Type 0 where
  pub lane : t < tenants
  pub len : len_of l t ≤ depth
  pub long : length entries ≡ all_entries
  pub given : length ns ≡ entry_numbers * count

-- so many more in lane t
pub record CanJoin (l : Lanes) (t n : ℕ) : Type 0 where
  pub lane : t < tenants
  pub room : len_of l t + n ≤ depth

-- one fewer in lane t
pub record CanTake (l : Lanes) (t : ℕ) : Type 0 where
  pub lane : t < tenants
  pub head : head_of l t < depth
  pub some : 0 < len_of l t
