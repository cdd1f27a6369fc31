pub mod WhoseExamples
pub mod WhoseStrips
pub mod Numbers
pub mod RepeatedEntries
