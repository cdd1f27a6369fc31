pub mod Turns
pub mod Fronts
pub mod Passes
pub mod Payloads
pub mod Heads
pub mod Ends
pub mod Measures
