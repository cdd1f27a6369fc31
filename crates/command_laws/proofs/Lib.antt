pub mod JudgementRooms
pub mod AsAnswered
pub mod LastLines
pub mod LastLineTells
pub mod LineCosts
pub mod ResultCosts
pub mod ExplainRooms
pub mod LogTells
