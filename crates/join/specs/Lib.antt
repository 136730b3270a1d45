pub mod Join
pub mod Bound
