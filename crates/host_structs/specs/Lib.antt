pub mod Faces
pub mod Made
pub mod Version
pub mod JudgeFaces
