-- What the session promises: the five calls of document 01 as definitions over one market, and the reading of a tally.
-- Files whose names end in Laws prove; the others state.
pub mod TurnAnswer
pub mod OpenAnswer
pub mod Tallied
pub mod Left
pub mod Market
pub mod Sound
pub mod Settings
pub mod SettingsLaws
pub mod SettingsSoundLaws
pub mod Submit
pub mod SubmitLaws
pub mod SubmitSoundLaws
pub mod Turn
pub mod TakingLaws
pub mod TurnSoundLaws
pub mod TurnLaws
pub mod Open
pub mod OpenLaws
pub mod OpenSoundLaws
pub mod Reading
pub mod ReadingLaws
