pub mod ChainValues
pub mod TagsRead
pub mod TagLists
