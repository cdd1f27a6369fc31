pub mod Ends
pub mod Walked
