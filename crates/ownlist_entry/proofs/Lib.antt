pub mod ByteSequences
pub mod Sequences
