pub mod Booleans
pub mod Lists
pub mod Spans
pub mod Splices
pub mod Tables
pub mod Clips
