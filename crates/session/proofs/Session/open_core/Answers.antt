-- `Session::open_core` meets its contract, by which way the open goes; and what the definition makes of a sound
-- market is sound.
use mathlib.Core.Path.{◌≡◌, sym, ap, ◌∙◌}
use native.Mathlib.Omega.{arith}
use mathlib.Core.List.{List}
use Rattle.std.proofs.Common.{Ok, Err, rules}
use Prim.Native.Nat.{ℕ}
use Rattle.session.specs.Market.{Market, series_of}
use Rattle.session.specs.Open.{open_of, by_way}
use Rattle.dealing.specs.declared.Series.{Series}
use Rattle.dealing.specs.Way.{Way, way_told}
use Rattle.dealing.specs.Open.{way_of}
use Rattle.dealing.specs.WayLaws.{priced_accepted}
use Rattle.session.specs.OpenLaws.{by_way_lem, can_open, quiet_is, matched_is}
use Rattle.session.specs.OpenSoundLaws.{as_defined}
use Rattle.session.proofs.Session.open_core.Goals as goal

-- what the way that is taken makes of the market is what the definition makes of it
made : (m : Market) (lent : ℕ) (was : List ℕ) {x : Series} {w v : Way} → x ≡ series_of m.session → w ≡ way_of m.session.accepted x m.book lent
    → w ≡ v → by_way m was v ≡ open_of m lent was
made m lent was e way is = by_way_lem m lent was _ (sym is ∙ (way ∙ ap (λ (y : Series). way_of m.session.accepted y m.book lent) e))

pub open_book-done-requires : goal.open_book-done-requires
open_book-done-requires c =
    can_open c.args.self.now _ _ (c.requires (priced_accepted _ _ _ _ _ c.which_way.ensures (ap way_told (c.in_ok-price.was ∙ ap Ok c.in-Some.is)))) (omega arith)

pub returns-in_err-price : goal.returns-in_err-price
returns-in_err-price c =
    let same : c.from_residual.result ≡ Err c.in_err-price.field-0.0 = search rules in
    let all = as_defined _ _ _ _ _ _ (record { session = _; answer = Err c.in_err-price.field-0.0 }) (λ entries. made _ _ _ c.series.ensures c.which_way.ensures (ap way_told c.in_err-price.was)) in
    record { exact = rw same all.0; sound = all.1.0; values = rw same all.1.1 }

pub returns-in_default : goal.returns-in_default
returns-in_default c =
    let all =
    as_defined _ _ _ _ _ _ (record { session = _; answer = Ok _ })
    (λ entries. quiet_is _ _ _ c.open_on.ensures ∙ made _ _ _ c.series.ensures c.which_way.ensures (ap way_told (c.in_ok-price.was ∙ ap Ok c.in_default.is))) in
    record { exact = all.0; sound = all.1.0; values = all.1.1 }

pub returns : goal.returns
returns c =
    let done = c.open_book-done.ensures in
    let all =
    as_defined _ _ _ _ _ _ (record { session = _; answer = Ok _ })
    (λ entries.
    matched_is _ _ _ _ _ _ _ done.numbers_value done.records_after done.value c.open_on-2.ensures
    ∙ made _ _ _ c.series.ensures c.which_way.ensures (ap way_told (c.in_ok-price.was ∙ ap Ok c.in-Some.is))) in
    record { exact = all.0; sound = all.1.0; values = all.1.1 }
