pub mod Ends
pub mod Internal
