-- What the tape reader promises: the form of events and the event at a place, and how the bytes and what is read of
-- them fit together.
pub mod Refusal
pub mod Tape
pub mod Kinds
pub mod Several
pub mod Steps
pub mod Depth
pub mod TapeLaws
pub mod Leads
pub mod Spelling
pub mod Storing
pub mod One
pub mod OneLaws
pub mod Refusals
pub mod Whole
pub mod WholeLaws
pub mod Examples
