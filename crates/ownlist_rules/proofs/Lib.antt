pub mod Unfolding
pub mod ListExamples
pub mod Utf8Examples
pub mod SpelledExamples
pub mod CallExamples
pub mod TermExamples
