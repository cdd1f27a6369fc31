pub mod Unfolding
pub mod ValueExamples
pub mod ResultExamples
pub mod TableExamples
