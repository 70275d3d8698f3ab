-- How one entry is judged: the rules of document 01 as definitions, and the laws about them.
pub mod Bound
pub mod Disposition
pub mod Dispositions
pub mod Judged
pub mod JudgedOf
pub mod Verdict
pub mod DispositionLaws
pub mod BoundLaws
pub mod Words
pub mod VerdictLaws
pub mod Examples
