pub mod Output
pub mod Transfer
