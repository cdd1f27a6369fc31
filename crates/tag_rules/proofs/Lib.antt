pub mod Unfolding
pub mod TagExamples
pub mod NeededExamples
