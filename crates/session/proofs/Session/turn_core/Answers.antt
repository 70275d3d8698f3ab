-- `Session::turn_core` meets its contract: refused, or the turn of the entry of the lane served; a sound market has
-- what each part rests on.
use Rattle.std.proofs.Common.{◌≡◌, refl, Err, arith, rules}
use Rattle.entry.specs.Refusals.{refusal_above_0}
use Rattle.session.specs.TakingLaws.{turns_held}
use Rattle.session.specs.TurnLaws.{turn_refused, turn_taken, can_take, can_count, can_number, can_deal, as_defined}
use Rattle.session.proofs.Session.turn_core.Goals as goal

pub lane_served-requires : goal.lane_served-requires
lane_served-requires c =
    turns_held _ c.requires

pub returns-in_err-t : goal.returns-in_err-t
returns-in_err-t c =
    let same : c.from_residual.result ≡ Err c.in_err-t.field-0.0 = search rules in
    let done = turn_refused _ _ _ _ c.in_err-t.ensures.code (refusal_above_0 _) in
    let all = as_defined _ _ _ _ c.requires done in
    record { exact = rw same all.0; sound = all.1.0; values = rw same all.1.1 }

pub head-e-requires : goal.head-e-requires
head-e-requires c =
    (can_take _ _ c.args.records.now _ c.in_ok-t.ensures.code (omega arith) refl _ c.in_ok-t.ensures.lane c.requires).lane

pub take-requires : goal.take-requires
take-requires c =
    record {
      can_take = can_take _ _ c.args.records.now _ c.in_ok-t.ensures.code (omega arith) refl _ c.in_ok-t.ensures.lane c.requires;
      countable = can_count _ _ c.args.records.now _ c.in_ok-t.ensures.code (omega arith) refl _ c.in_ok-t.ensures.lane c.requires;
    }

pub deal-done-requires : goal.deal-done-requires
deal-done-requires c =
    can_deal _ _ _ _ c.in_ok-t.ensures.code (omega arith) refl _ c.in_ok-t.ensures.lane c.requires _ _ _
    c.head-e.ensures c.take.ensures c.series.ensures (omega arith)

pub keep-requires : goal.keep-requires
keep-requires c =
    can_number _ _ c.args.records.now _ c.in_ok-t.ensures.code (omega arith) refl _ c.in_ok-t.ensures.lane c.requires _
    c.take.ensures

pub returns : goal.returns
returns c =
    let done =
    turn_taken _ _ _ _ c.in_ok-t.ensures.code (omega arith) refl _ c.in_ok-t.ensures.lane _ _ _ _ _ _ _
    c.head-e.ensures c.take.ensures c.series.ensures c.deal-done.ensures c.keep.ensures in
    let all = as_defined _ _ _ _ c.requires done in
    record { exact = all.0; sound = all.1.0; values = all.1.1 }
