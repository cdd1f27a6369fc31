pub mod DigitsTell
pub mod Digits
pub mod Examples
pub mod DigitBytes
