pub mod Domains
pub mod Values
