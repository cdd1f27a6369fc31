pub mod Fits
pub mod Spelt
