pub mod Numbered
pub mod Tabling
