-- What the lines promise: the bytes of each, and which orders an opening cancelled.
pub mod Letters
pub mod Laying
pub mod Lines
pub mod Numbered
pub mod Gone
pub mod GoneLaws
pub mod Examples
pub mod Cancelled
