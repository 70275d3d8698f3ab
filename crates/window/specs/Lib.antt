-- The window on a file, writing bytes to one, the ends of a program, and the line that tells a refusal.
pub mod Window
pub mod WindowLaws
pub mod Writing
pub mod Program
pub mod Refusal
pub mod RefusalLaws
