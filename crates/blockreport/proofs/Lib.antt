pub mod Rooms
pub mod Passes
pub mod Ends
