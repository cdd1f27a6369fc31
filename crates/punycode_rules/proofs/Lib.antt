pub mod Unfolding
pub mod Samples
