pub mod Texts
pub mod Readers
pub mod Parsers
pub mod Places
pub mod Walks
pub mod Locality
pub mod Lines
