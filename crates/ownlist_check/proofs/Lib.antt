pub mod EntrySteps
pub mod ListAnswers
