pub mod Stored
pub mod Spans
