-- The lanes and the rotation: the rules of document 01 as definitions, and the laws about them.
pub mod Ring
pub mod RingLaws
pub mod Bulk
pub mod BulkLaws
pub mod Waiting
pub mod Asked
pub mod Rotation
pub mod Runs
pub mod RotationLaws
pub mod Fairness
pub mod Marks
pub mod Examples
