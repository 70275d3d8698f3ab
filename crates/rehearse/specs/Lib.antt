-- The program's loop.
pub mod Rehearsing
