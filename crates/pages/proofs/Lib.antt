pub mod Bits
pub mod Parts
pub mod Assembling
pub mod Lists
pub mod Whole
pub mod Unique
pub mod Steps
