-- `allocation::gather::put_after` meets its contract, by whether the row is taken.
use native.Mathlib.Nat.{add-zero}
use Rattle.allocation.specs.Gathering.{put_after}
use Rattle.allocation.proofs.gather.put_after.Goals as goal

pub returns-then-taken : goal.returns-then-taken
unfolding put_after
returns-then-taken c = let x = c.if-taken.true in record { keys_after = simp x; held_after = simp x; value = simp x }

pub returns-else-taken : goal.returns-else-taken
unfolding put_after
returns-else-taken c = let x = c.if-taken.false in record { keys_after = simp x; held_after = simp x; value = simp (x, add-zero) }
