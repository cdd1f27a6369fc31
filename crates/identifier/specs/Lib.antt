pub mod Answers
pub mod VersionAnswers
