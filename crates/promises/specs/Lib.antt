pub mod Outcome
pub mod Example
pub mod Table
pub mod Numbers
pub mod Wrong
pub mod Made
