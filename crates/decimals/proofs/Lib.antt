pub mod Values
pub mod Leads
