-- `lanes::ring::put` meets its contract: the six numbers copied are those of the entry, and they stand where it is put.
use mathlib.Core.Path.{◌≡◌, sym, ◌∙◌}
use mathlib.Core.List.{List, append_assoc}
use Prim.Native.Nat.{ℕ, ◌+◌, ◌-◌, ◌*◌, ◌≤◌}
use native.Mathlib.Omega.{arith}
use lib.ListN.{length, take, drop, length-drop}
use borrow.Rule.Slice.PartMut.{Post-is}
use Rattle.std.proofs.lemmas.List.{get_or-take, get_or-drop}
use Rattle.std.proofs.Common.{length-take-le}
use Rattle.std.proofs.lemmas.List.Edits.{sets-eq}
use Rattle.units.specs.Places.{table, table_is, table_length}
use Rattle.entry.specs.Numbers.{entry_numbers}
use Rattle.lanes.specs.Ring.{number_of, put}
use Rattle.lanes.proofs.ring.put.Goals as goal

six : (n : ℕ) → n + entry_numbers - n ≡ entry_numbers
six n = omega arith

given : (ns : List ℕ) (j : ℕ) → j * entry_numbers + entry_numbers ≤ length ns
    → take entry_numbers (drop (j * entry_numbers) ns) ≡ table (number_of ns j) entry_numbers
given ns j h =
    let rest = drop (j * entry_numbers) ns in
    table_is (number_of ns j) (take entry_numbers rest) entry_numbers
    (length-take-le entry_numbers rest (omega (arith, length-drop (j * entry_numbers) ns)))
    (λ i p. get_or-take entry_numbers rest i 0 p ∙ get_or-drop (j * entry_numbers) ns i 0)

pub returns : goal.returns
unfolding put
returns c =
    let a = c.args in
    let f = number_of a.ns.now a.j in
    let to = a.k * entry_numbers in
    let copied : c.copy_from_slice.new.self ≡ table f entry_numbers =
    rw six at c.copy_from_slice.ensures.after ∙ given a.ns.now a.j c.requires.given in
    let stored = sets-eq (table f entry_numbers) a.entries.now to (omega (arith, table_length f entry_numbers)) in
    let behind = Post-is to (to + entry_numbers) a.entries.now (omega arith) in
    rw (copied, stored, table_length f entry_numbers, behind)
    (sym (append_assoc (take to a.entries.now) (table f entry_numbers) (drop (to + entry_numbers) a.entries.now)))
