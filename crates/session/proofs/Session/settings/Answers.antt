-- `Session::settings` meets its contract, by whether the number is a grid's and the values are in range.
use mathlib.Core.Path.{refl, sym, ◌∙◌}
use Rattle.session.specs.SettingsLaws.{settings_no_grid, settings_outside, settings_accepted}
use Rattle.session.specs.SettingsSoundLaws.{settings_kept}
use Rattle.session.proofs.Session.settings.Goals as goal

pub returns-in_default : goal.returns-in_default
returns-in_default c =
    let kept = settings_kept _ _ _ refl (settings_no_grid _ _ c.of.ensures c.in_default.is) in
    record { exact = kept.0; sound = kept.1 }

pub returns-then-not-in_range : goal.returns-then-not-in_range
returns-then-not-in_range c =
    let kept =
    settings_kept _ _ _ refl
    (settings_outside _ _ _ c.of.ensures c.in-Some.is (sym c.in_range.ensures ∙ c.if-not-in_range.true)) in
    record { exact = kept.0; sound = kept.1 }

pub returns : goal.returns
returns c =
    let kept =
    settings_kept _ _ _ refl
    (rw c.new.ensures (settings_accepted _ _ _ _ _ c.of.ensures c.in-Some.is (sym c.in_range.ensures ∙ c.if-not-in_range.false) c.terms_of.ensures
    c.started.ensures)) in
    record { exact = kept.0; sound = kept.1 }
