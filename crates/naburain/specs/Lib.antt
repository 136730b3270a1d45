pub mod Result
pub mod Exported
pub mod Agree
