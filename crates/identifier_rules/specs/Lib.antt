pub mod Identifier
pub mod Version
pub mod Terms
