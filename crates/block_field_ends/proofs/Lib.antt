pub mod Examples
pub mod Ends
pub mod Steps
