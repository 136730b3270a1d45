pub mod TestLaws
pub mod AskLaws
