pub mod Examples
pub mod JudgementsFit
