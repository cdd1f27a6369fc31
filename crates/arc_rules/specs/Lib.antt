pub mod Sets
pub mod Chain
pub mod Accepted
pub mod Reasons
pub mod Answers
pub mod Terms
