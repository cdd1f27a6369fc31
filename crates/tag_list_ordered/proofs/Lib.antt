pub mod Slots
pub mod Halving
pub mod Collecting
