pub mod Tested
pub mod Fronts
pub mod Weights
pub mod Strays
pub mod Admits
