pub mod Tags
pub mod Needed
