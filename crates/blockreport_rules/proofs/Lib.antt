pub mod Unfolding
pub mod LineExamples
pub mod Examples
