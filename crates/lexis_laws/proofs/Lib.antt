pub mod Bytes
pub mod Pieces
pub mod Locality
pub mod Numbers
pub mod VersionNumbers
pub mod Trimmed
pub mod Values
pub mod Steadiness
