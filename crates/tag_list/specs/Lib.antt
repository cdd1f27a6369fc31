pub mod Lists
pub mod Internal
