pub mod Whose
pub mod Numbers
pub mod LinesAreReports
pub mod WithIdentifiers
pub mod Sizes
pub mod Limits
pub mod RepeatedEntries
pub mod Rooms
