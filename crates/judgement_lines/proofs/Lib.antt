pub mod Columns
pub mod WordLaws
