pub mod Unfolding
pub mod TextExamples
pub mod Examples
pub mod Texts
pub mod TextsReadBack
pub mod Terminal
pub mod Lengths
pub mod PlainAndShort
