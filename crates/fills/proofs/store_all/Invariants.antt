-- What the loop of `fills::store_all` keeps: the first i fills of the row are those of the flat records.
use Rattle.std.proofs.Common.{◌≡◌, ◌≤◌}
use Rattle.book.specs.Fills.{stored}
use Rattle.fills.proofs.store_all.Given as goal

abbrev pub invariant-loop-i : goal.invariant-loop-i
invariant-loop-i l = record { within : l.i ≤ l.count; filled : l.fills ≡ stored l.records l.i l.initial.fills }
