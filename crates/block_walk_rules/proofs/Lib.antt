pub mod Examples
pub mod WholeExamples
pub mod Firsts
pub mod Given
pub mod FieldsGiven
