pub mod Flags
pub mod Tracks
