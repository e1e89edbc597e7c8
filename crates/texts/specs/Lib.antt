pub mod Unicode
pub mod Leads
pub mod Cut
pub mod Steps
