pub mod Coding
pub mod Widths
