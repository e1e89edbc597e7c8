pub mod Logs
pub mod Records
