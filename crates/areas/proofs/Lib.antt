pub mod Laying
pub mod Tiling
