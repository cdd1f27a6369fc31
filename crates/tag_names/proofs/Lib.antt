pub mod Ordering
pub mod Fronts
pub mod Needed
pub mod Buckets
