pub mod Internal
pub mod WordsInternal
