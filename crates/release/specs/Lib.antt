pub mod Dips
pub mod Records
pub mod Release
pub mod Rows
