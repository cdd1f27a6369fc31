pub mod Returned
pub mod JudgeReturned
