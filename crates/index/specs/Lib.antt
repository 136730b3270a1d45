pub mod Format
pub mod Part
pub mod Sound
pub mod Check
pub mod Read
pub mod Told
