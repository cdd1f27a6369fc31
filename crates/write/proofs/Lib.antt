pub mod States
pub mod Passes
pub mod Ends
