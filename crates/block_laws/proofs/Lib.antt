pub mod Lines
pub mod Extents
pub mod Field
pub mod Fields
pub mod Limits
