pub mod TooManyFields
pub mod KeptSilent
pub mod OwnFieldFirst
pub mod EachPlace
pub mod FieldInLine
pub mod WrittenIsOurs
pub mod WrittenLimits
