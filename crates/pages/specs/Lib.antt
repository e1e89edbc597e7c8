pub mod Layout
pub mod Widths
pub mod Pages
pub mod Refusals
pub mod Reading
pub mod Counts
pub mod Sinking
