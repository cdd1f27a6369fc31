pub mod Linking
pub mod Answers
