pub mod Lines
pub mod WholeFields
pub mod Steps
pub mod StepsAreWalks
