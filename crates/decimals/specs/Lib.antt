pub mod Decimals
pub mod Extensions
