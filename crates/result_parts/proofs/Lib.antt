pub mod Labels
pub mod Reasons
pub mod PartExamples
pub mod PartPlaces
