pub mod Histories
pub mod Stands
pub mod Calls
pub mod Reads
