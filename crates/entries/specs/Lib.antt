pub mod Bounds
pub mod Entries
pub mod Tables
