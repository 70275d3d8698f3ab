-- The program's loop.
pub mod Sending
pub mod SendingLaws
pub mod Submitting
pub mod SubmittingLaws
