-- `Session::submit` meets its contract, by whether it is refused; a bulk that is not finds the lane sound and has room in
-- it.
use Rattle.std.proofs.Common.{◌≡◌, sym, Ok, Err, arith, rules}
use Rattle.entry.specs.Refusals.{refusal_above_0}
use Rattle.session.specs.Market.{market_of}
use Rattle.session.specs.SubmitLaws.{joins, submit_refused, submit_accepted}
use Rattle.session.specs.SubmitSoundLaws.{submit_kept}
use Rattle.session.proofs.Session.submit.Goals as goal

pub returns-in_err-takes_bulk-clause-exact : goal.returns-in_err-takes_bulk-clause-exact
returns-in_err-takes_bulk-clause-exact c =
    λ b.
    let same : c.from_residual.result ≡ Err c.in_err-takes_bulk.field-0.0 = search rules in
    rw same (submit_refused (market_of _ b _) _ _ _ _ c.in_err-takes_bulk.ensures (refusal_above_0 _))

pub put_all-requires : goal.put_all-requires
put_all-requires c =
    let j = joins _ _ _ _ (sym c.in_ok-takes_bulk.ensures) in
    let sound = c.requires j.set in
    record { lane = j.lane; len = sound.marks.len _ j.lane; long = sound.entries_long; given = j.given }

pub joined-self-requires : goal.joined-self-requires
joined-self-requires c =
    let j = joins _ _ _ _ (sym c.in_ok-takes_bulk.ensures) in
    record { lane = j.lane; room = j.room }

pub returns : goal.returns
returns c =
    let kept =
    submit_kept _ _ _ _ _ _ (record { session = _; answer = Ok tt })
    (λ b. submit_accepted (market_of _ b _) _ _ _ _ c.in_ok-takes_bulk.ensures _ _ (omega arith) c.joined-self.ensures c.put_all.ensures) in
    record { exact = kept.0; sound = kept.1 }
