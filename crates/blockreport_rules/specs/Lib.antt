pub mod FieldLines
pub mod BlockReport
pub mod Answers
pub mod Terms
