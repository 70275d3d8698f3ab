-- A column lent to a function, as its contract names it.
use Rattle.std.specs.Prelude.{List, ℕ}
use Rattle.std.specs.Borrow.{Bor, MutBor}
use denote.Triple.Both.{Both}
use Rattle.units.specs.Places.{at}

-- in a demand: what it holds
abbrev pub Column : Type 0
Column = Bor (List ℕ)

-- in a promise: as it is at entry, and as it is left
abbrev pub Lent : Type 0
Lent = Both Column Column

-- the same of a column that is lent to be changed
abbrev pub ColumnMut : Type 0
ColumnMut = MutBor (List ℕ)

abbrev pub LentMut : Type 0
LentMut = Both ColumnMut ColumnMut

-- what it has at place i as the function finds it
abbrev pub found : Lent → ℕ → ℕ
found column = at column.entry.now
