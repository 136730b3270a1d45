pub mod Bit
pub mod Window
pub mod Filled
pub mod Flips
pub mod Steps
pub mod Tuning
