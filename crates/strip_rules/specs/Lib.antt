pub mod Strip
pub mod Answers
pub mod ByFields
pub mod Terms
