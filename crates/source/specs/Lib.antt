pub mod Source
pub mod Ask
pub mod Demand3
