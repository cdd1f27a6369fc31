pub mod Unfolding
pub mod Examples
pub mod TermExamples
