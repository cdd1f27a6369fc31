pub mod Lines
pub mod Internal
