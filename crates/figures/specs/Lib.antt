-- A tape in figures, and the theorems that tie a text to the tape that is written of it.
pub mod Figures
pub mod Reading
pub mod Whole
pub mod Next
pub mod Inscribing
pub mod Running
pub mod TapeInFigures
pub mod ReadingLaws
pub mod TakingLaws
pub mod InscribingLaws
pub mod EventLaws
pub mod RunningLaws
pub mod FigureLaws
pub mod Outcomes
pub mod TapeInFiguresProof
pub mod Examples
