pub mod Codes
pub mod Tests
pub mod Literals
pub mod Tails
pub mod Keywords
pub mod Shapes
pub mod Showing
pub mod Allowed
