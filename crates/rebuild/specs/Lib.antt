pub mod Readings
pub mod Rebuilt
