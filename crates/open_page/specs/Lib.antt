pub mod Pages
pub mod Opened
