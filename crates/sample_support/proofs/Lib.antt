pub mod Numbers
pub mod Fills
pub mod Parts
pub mod Examples
