-- `Session::away` meets its contract, by whether it is refused.
use Rattle.std.proofs.Common.{◌≡◌, Ok, Err, arith, rules}
use Rattle.entry.specs.Refusals.{refusal_above_0}
use Rattle.session.specs.Market.{market_of}
use Rattle.session.specs.SettingsLaws.{away_refused, away_accepted}
use Rattle.session.specs.SettingsSoundLaws.{away_kept}
use Rattle.session.proofs.Session.away.Goals as goal

pub returns-in_err-takes_away-clause-exact : goal.returns-in_err-takes_away-clause-exact
returns-in_err-takes_away-clause-exact c =
    λ b entries.
    let same : c.from_residual.result ≡ Err c.in_err-takes_away.field-0.0 = search rules in
    rw same (away_refused (market_of _ b entries) _ _ _ c.in_err-takes_away.ensures (refusal_above_0 _))

pub returns : goal.returns
returns c =
    let kept =
    away_kept _ _ _ (record { session = _; answer = Ok tt })
    (λ b entries. away_accepted (market_of _ b entries) _ _ _ c.in_ok-takes_away.ensures (omega arith)) in
    record { exact = kept.0; sound = kept.1 }
