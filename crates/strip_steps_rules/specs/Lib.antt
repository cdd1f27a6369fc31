pub mod Steps
pub mod Answers
pub mod Pair
pub mod Terms
