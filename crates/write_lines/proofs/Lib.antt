pub mod Answers
pub mod Lines
pub mod Methods
pub mod Properties
