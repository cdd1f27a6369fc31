pub mod Words
pub mod Messages
