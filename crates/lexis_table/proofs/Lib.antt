pub mod Arms
pub mod Entries
pub mod EveryEntry
