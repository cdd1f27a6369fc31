pub mod Unfolding
pub mod FieldExamples
pub mod Samples
pub mod AcceptedExamples
pub mod ReasonExamples
pub mod TermExamples
