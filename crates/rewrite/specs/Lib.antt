-- What the program does between two system calls.
pub mod Rewriting
