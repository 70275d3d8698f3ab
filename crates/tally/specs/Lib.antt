-- What the tallies promise.
pub mod Tallies
pub mod TallyLaws
