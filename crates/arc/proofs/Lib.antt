pub mod FieldReading
pub mod Noting
pub mod Ranking
pub mod Judging
