pub mod Orders
pub mod Numbers
pub mod Cuts
