pub mod Examples
pub mod ClassExamples
pub mod WordExamples
pub mod NumberExamples
