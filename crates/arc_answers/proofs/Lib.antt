pub mod Verdicts
pub mod Built
