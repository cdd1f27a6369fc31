pub mod Internal
pub mod Values
