pub mod Tokens
pub mod Identifiers
pub mod IdentifierGot
pub mod Versions
pub mod VersionGot
