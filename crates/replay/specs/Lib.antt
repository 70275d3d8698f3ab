-- What the replay promises: what an event makes of the market, and the bytes that it prints.
pub mod Listing
pub mod ListingLaws
pub mod Answers
pub mod Replay
pub mod ReplayLaws
pub mod Stepping
pub mod SteppingLaws
pub mod RisingLaws
pub mod Tallying
pub mod TallyingLaws
pub mod Output
pub mod OutputLaws
