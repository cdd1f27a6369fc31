pub mod Examples
pub mod PlainAndShort
