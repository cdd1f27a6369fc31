pub mod EndingsFit
pub mod Lines
pub mod Examples
