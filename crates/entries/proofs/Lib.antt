pub mod Nulls
pub mod Padding
