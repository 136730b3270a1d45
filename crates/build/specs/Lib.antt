pub mod Lent
pub mod Build
pub mod ReadsBack
pub mod Passes
