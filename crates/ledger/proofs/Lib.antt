pub mod Joining
pub mod Enclosing
pub mod Ordering
pub mod ChunkLaws
pub mod Runs
pub mod Numbers
