pub mod Code
pub mod Reads
pub mod Group
pub mod Grouping
