pub mod Formats
pub mod Laws
pub mod Coders
pub mod Lists
pub mod Layouts
