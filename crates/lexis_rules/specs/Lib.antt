pub mod Limits
pub mod Bytes
pub mod Pieces
pub mod Numbers
pub mod Words
pub mod Answers
