pub mod ByJudging
