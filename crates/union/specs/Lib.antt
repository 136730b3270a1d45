pub mod Active
pub mod Scan
