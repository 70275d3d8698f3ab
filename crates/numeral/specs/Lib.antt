-- What the number reader promises: the number at a place; the paper's three conditions; encoding, and how the two fit
-- together.
pub mod Number
pub mod Plain
pub mod Encode
pub mod Steps
pub mod Cases
pub mod Laws
pub mod Writing
pub mod Window
pub mod Examples
