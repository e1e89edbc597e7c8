pub mod Refusals
pub mod Sinks
pub mod Stores
