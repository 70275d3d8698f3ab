-- `lanes::ring::put_all` meets its contract. The invariant: the first j entries of the bulk are put.
use mathlib.Core.Path.{sym, ◌∙◌}
use native.Mathlib.Omega.{arith}
use Rattle.lanes.specs.RingLaws.{slot_within, put_all_none, put_all_next, put_all_length}
use Rattle.lanes.proofs.ring.put_all.Goals as goal

pub loop-j-init : goal.loop-j-init
loop-j-init c = (omega arith, sym (put_all_none _ _ _ _))

pub put-requires : goal.put-requires
put-requires c =
    let o = c.loop-j in
    record {
      long = rw o.invariant.1 (put_all_length c.args.l c.args.entries.now c.args.t c.args.ns.now o.j ∙ c.requires.long);
      place = rw c.slot.ensures (slot_within c.args.t _ _ c.requires.lane);
      given = omega arith;
    }

pub loop-j-preserved : goal.loop-j-preserved
loop-j-preserved c =
    let a = c.args in
    let o = c.loop-j in
    (omega arith, cc (put_all_next a.l a.entries.now a.t a.ns.now o.j))
