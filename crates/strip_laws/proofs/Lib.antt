pub mod Laws
pub mod Alike
pub mod StripTheorems
pub mod Numbers
pub mod ByFields
pub mod Limits
