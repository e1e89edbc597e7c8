pub mod Scalars
pub mod Tables
pub mod LeadBytes
pub mod Fronts
pub mod Raises
pub mod Cuts
pub mod Boundaries
