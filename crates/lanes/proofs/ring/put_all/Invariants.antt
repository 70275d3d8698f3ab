-- What the loop of `lanes::ring::put_all` keeps.
use mathlib.Core.Path.{◌≡◌}
use Prim.Native.Nat.{◌≤◌}
use Rattle.lanes.specs.Ring.{put_all}
use Rattle.lanes.proofs.ring.put_all.Given as goal

abbrev pub invariant-loop-j : goal.invariant-loop-j
invariant-loop-j l = (l.j ≤ l.count) × (l.entries ≡ put_all l.l l.initial.entries l.t l.ns l.j)
