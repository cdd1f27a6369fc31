pub mod Texts
pub mod Owners
