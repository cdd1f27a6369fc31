pub mod Examples
pub mod Bytes
