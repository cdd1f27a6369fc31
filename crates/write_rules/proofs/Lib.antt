pub mod Unfolding
pub mod Samples
pub mod PromiseExamples
