pub mod Punycode
pub mod Unicode
pub mod Labels
