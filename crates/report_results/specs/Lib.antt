pub mod Turns
pub mod Internal
