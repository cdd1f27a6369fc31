pub mod Escape
pub mod Escapes
