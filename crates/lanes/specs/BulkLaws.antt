-- A bulk looked through entry by entry.
use Rattle.std.specs.Prelude.{◌≡◌, Bool, true, false, List, ℕ, ◌≤◌, ◌<◌}
use borrow.Author.Tests.{lt-ltb, le-ltb}
use Rattle.units.specs.Loops.{Sought, seek_finds, seek_ends}
use Rattle.entry.specs.Entry.{malformed}
use Rattle.lanes.specs.Ring.{entry_at}
use Rattle.lanes.specs.Bulk.{some_malformed}

-- entry j of the bulk is malformed
abbrev pub bad_at : List ℕ → ℕ → Bool
bad_at ns j = malformed (entry_at ns j)

module _ (count : ℕ) (ns : List ℕ) (j : ℕ) (sought : Sought count (bad_at ns) j) where
  pub malformed_found : j < count → bad_at ns j ≡ true → true ≡ some_malformed count ns
  unfolding some_malformed
  malformed_found h e = let f = seek_finds count (bad_at ns) j sought h e in rw (← f, lt-ltb j count h)

  pub malformed_none : count ≤ j → false ≡ some_malformed count ns
  unfolding some_malformed
  malformed_none h = let f = seek_ends count (bad_at ns) j sought h in rw (← f, le-ltb j count h)
