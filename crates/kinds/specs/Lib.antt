pub mod Orders
pub mod Plain
pub mod Cuts
pub mod Meaning
