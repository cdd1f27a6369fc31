pub mod Texts
pub mod Explained
pub mod Promise
