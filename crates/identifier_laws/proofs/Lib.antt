pub mod Parts
pub mod Equality
pub mod EqualExactly
pub mod StaysReadable
