-- Every reached market is sound, since a start is and every call keeps it so.
use Rattle.std.proofs.Common.{sym, ap, ◌∙◌, true≢false}
use Rattle.session.specs.declared.Session.{Session}
use Rattle.session.specs.Market.{Market}
use Rattle.session.specs.Sound.{Sound}
use Rattle.session.specs.SettingsSoundLaws.{settings_sound, away_sound}
use Rattle.session.specs.SubmitSoundLaws.{submit_sound}
use Rattle.session.specs.TurnSoundLaws.{turn_sound}
use Rattle.session.specs.OpenSoundLaws.{open_sound}
use Rattle.demands.specs.Runs.{Call, settings, away, submit, turn, opening, step, Start, Reached}
use Rattle.demands.specs.RunLaws.{reached_has}
use Rattle.demands.specs.Shape.{Shaped, step_shaped, start_shaped}
use Rattle.demands.specs.Soundness.{ReachedSound}

-- what the calls' laws rest on, in every reached market
pub record Stands (m : Market) : Type 0 where
  pub shaped : Shaped m
  pub sound : Sound m

pub start_stands : (m : Market) → Start m → Stands m
start_stands m s = record {
  shaped = start_shaped m s;
  -- a session with no accepted settings is sound with any columns
  sound = λ set. absurd (true≢false (sym set ∙ ap (λ (x : Session). x.accepted) s.new));
}

step_sound : (m : Market) (c : Call) → Stands m → Sound (step m c).market
step_sound m (settings given) s = settings_sound m s.shaped.places given s.sound
step_sound m (away bid offer) s = away_sound m bid offer s.sound
step_sound m (submit tenant count ns) s = submit_sound m tenant count ns s.sound
step_sound m (turn lent was) s = turn_sound m lent was s.sound
step_sound m (opening lent was) s = open_sound m lent was s.sound

pub step_stands : (m : Market) (c : Call) → Stands m → Stands (step m c).market
step_stands m c s = record { shaped = step_shaped m c s.shaped; sound = step_sound m c s }

pub reached_stands : (m : Market) → Reached m → Stands m
reached_stands = reached_has Stands step_stands start_stands

pub reached_sound : ReachedSound
reached_sound m r = (reached_stands m r).sound
