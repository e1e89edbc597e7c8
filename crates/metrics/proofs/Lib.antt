pub mod Tallies
pub mod Nans
