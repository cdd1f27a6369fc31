pub mod ReadyExamples
pub mod CallsGoOn
