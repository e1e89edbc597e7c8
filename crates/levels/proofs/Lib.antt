pub mod Fronts
pub mod Rooms
