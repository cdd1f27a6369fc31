pub mod Lines
pub mod Identifiers
