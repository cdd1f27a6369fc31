pub mod Goes
pub mod Sifting
