pub mod Body
pub mod Report
pub mod Newer
pub mod Beside
pub mod Answers
pub mod ByCase
