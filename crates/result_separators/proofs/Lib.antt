pub mod Separators
pub mod SeparatorExamples
