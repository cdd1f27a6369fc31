pub mod Addends
