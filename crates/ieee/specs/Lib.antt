pub mod Formats
pub mod TotalOrder
