pub mod Examples
pub mod TermExamples
