pub mod OwnField
