pub mod Marks
pub mod Numbers
pub mod PairStrips
pub mod Calls
