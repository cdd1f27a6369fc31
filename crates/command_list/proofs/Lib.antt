pub mod EntryLines
pub mod ListLines
