pub mod Sizes
pub mod Ranks
