pub mod Examples
pub mod FieldExamples
