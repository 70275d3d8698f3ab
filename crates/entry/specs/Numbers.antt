-- The numbers of an entry and of a bulk, quotes that are there or not, and the words for the ranges of numbers.
use Rattle.std.specs.Prelude.{ℕ, ◌*◌, Bool, leb, ltb, eqb}
use Rattle.units.specs.declared.Cents.{Cents}
use Rattle.units.specs.Tests.{◌and◌, ◌or◌}

-- an entry is six numbers
abbrev pub entry_numbers : ℕ
entry_numbers = 6

-- a bulk message is 1 to 20 entries
abbrev pub bulk : ℕ
bulk = 20

-- so many numbers at most
abbrev pub bulk_numbers : ℕ
bulk_numbers = entry_numbers * bulk

-- an absent quote is 0
abbrev pub absent : Cents → Bool
absent p = eqb p.0 0

abbrev pub present : Cents → Bool
present p = ltb 0 p.0

-- 1 or 2
unfoldable pub one_or_two : ℕ → Bool
one_or_two n = eqb n 1 or eqb n 2

-- from 1 to the most
unfoldable pub from1to : ℕ → ℕ → Bool
from1to most n = leb 1 n and leb n most
