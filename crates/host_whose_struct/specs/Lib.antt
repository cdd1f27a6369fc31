pub mod Whose
