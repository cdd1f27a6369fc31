pub mod Sames
pub mod Comparing
