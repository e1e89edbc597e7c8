pub mod Comparing
pub mod Ints
