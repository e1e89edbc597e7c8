pub mod Figures
pub mod Ranked
