-- A tape played through a window, and the theorem that this prints the whole tape's output.
pub mod Next
pub mod Playing
pub mod PlayingLaws
pub mod Running
pub mod RunningLaws
