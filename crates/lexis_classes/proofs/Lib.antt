mod Digits
pub mod Bytes
pub mod Items
pub mod Loops
