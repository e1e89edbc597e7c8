pub mod Rows
pub mod Words
pub mod Firsts
pub mod Cuts
pub mod Turns
pub mod Exact
