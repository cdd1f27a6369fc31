pub mod Steps
pub mod PartsGot
