pub mod Rows
pub mod Packing
