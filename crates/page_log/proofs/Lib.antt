pub mod Listing
pub mod Logging
