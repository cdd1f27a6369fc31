pub mod Following
pub mod Values
pub mod Results
pub mod Keywords
