pub mod Again
pub mod Samples
