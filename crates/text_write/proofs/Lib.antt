pub mod Texts
pub mod Bars
pub mod Digits
