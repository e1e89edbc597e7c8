pub mod Lowest
pub mod Joined
pub mod Walk
