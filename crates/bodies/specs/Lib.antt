pub mod Splits
pub mod Bodies
