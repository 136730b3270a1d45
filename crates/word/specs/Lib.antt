pub mod Code
pub mod Word
