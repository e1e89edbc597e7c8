pub mod Comparing
pub mod Laying
pub mod Refusals
pub mod Writing
