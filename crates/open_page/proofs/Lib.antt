pub mod Joining
pub mod Pushing
pub mod Filling
pub mod Fitting
pub mod Accepted
pub mod Given
