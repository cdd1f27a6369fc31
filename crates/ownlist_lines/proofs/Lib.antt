pub mod Feeds
pub mod Seeking
