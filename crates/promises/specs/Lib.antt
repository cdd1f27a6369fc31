pub mod Exactly
pub mod Calls
