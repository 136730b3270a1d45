pub mod AskLaws
pub mod SatisfyLaws
pub mod Demand3
pub mod Unasked
