-- `lanes::rotation::served` meets its contract. The invariant: no lane less than d places on has an entry.
use mathlib.Core.Path.{◌≡◌, sym}
use mathlib.Core.Bool.{true}
use Prim.Native.Nat.{◌+◌, ◌%◌}
use native.Mathlib.Omega.{arith}
use borrow.Author.Tests.{lt-ltb}
use Rattle.units.specs.Units.{tenants}
use Rattle.units.specs.Loops.{seek_finds, seek_ends}
use Rattle.lanes.specs.Rotation.{on, waits, distance, served}
use Rattle.lanes.specs.RotationLaws.{served_lane, served_nobody}
use Rattle.lanes.proofs.rotation.served.Goals as goal

pub returns-then-l-t-gt0 : goal.returns-then-l-t-gt0
unfolding distance served
returns-then-l-t-gt0 c =
    let l = c.args.l in
    let o = c.loop-d in
    let e : (l.place % tenants + o.d) % tenants ≡ on l.place o.d = omega arith in
    let busy : waits l (on l.place o.d) ≡ true = rw (← e) (lt-ltb _ _ c.if-l-t-gt0.true) in
    let d : o.d ≡ distance (waits l) l.place = seek_finds _ _ o.d o.invariant (omega arith) busy in
    rw (served_lane (waits l) l.place (omega arith), ← d, e)

pub returns : goal.returns
unfolding distance served
returns c =
    let l = c.args.l in
    let o = c.loop-d in
    let d : o.d ≡ distance (waits l) l.place = seek_ends _ _ o.d o.invariant (omega arith) in
    sym (served_nobody (waits l) l.place (omega arith))
