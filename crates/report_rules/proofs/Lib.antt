pub mod Unfolding
pub mod ReportExamples
pub mod BodyExamples
pub mod NewerExamples
pub mod Samples
