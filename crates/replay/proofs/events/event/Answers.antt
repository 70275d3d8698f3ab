-- `replay::events::event` meets its contract, by which event it is.
use Rattle.replay.specs.Replay.{event_printed}
use Rattle.replay.specs.ReplayLaws.{known}
use Rattle.replay.proofs.events.event.Goals as goal

pub returns-in-Settings : goal.returns-in-Settings
unfolding event_printed
returns-in-Settings c = known _ _ _ _ _ _ c.in-Settings.is c.settings_event.ensures

pub returns-in-Away : goal.returns-in-Away
unfolding event_printed
returns-in-Away c = known _ _ _ _ _ _ c.in-Away.is (c.away_event.ensures _ _ c.requires)

pub returns-in-Submit : goal.returns-in-Submit
unfolding event_printed
returns-in-Submit c = known _ _ _ _ _ _ c.in-Submit.is (c.submit_event.ensures _ c.requires)

pub returns-in-Turn : goal.returns-in-Turn
unfolding event_printed
returns-in-Turn c = known _ _ _ _ _ _ c.in-Turn.is c.turn_event.ensures

pub returns-in-Open : goal.returns-in-Open
unfolding event_printed
returns-in-Open c = known _ _ _ _ _ _ c.in-Open.is (c.open_event.ensures _ c.requires)
