pub mod Fields
pub mod Sound
