-- The program's loop.
pub mod Writing
