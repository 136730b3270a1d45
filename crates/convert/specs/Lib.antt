pub mod Convert
pub mod Runs
