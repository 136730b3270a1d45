pub mod Has
pub mod Standing
pub mod Entry
pub mod Regions
