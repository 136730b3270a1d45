pub mod Row
pub mod Having
pub mod Slots
pub mod Compile
pub mod Bound
