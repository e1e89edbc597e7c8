pub mod Padding
pub mod Laying
