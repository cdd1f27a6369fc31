pub mod Utf8
pub mod OwnList
pub mod Listed
pub mod Spelled
pub mod Ends
pub mod Calls
pub mod Terms
