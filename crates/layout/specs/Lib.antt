pub mod Layout
pub mod Laid
