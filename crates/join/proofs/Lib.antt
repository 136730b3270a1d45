pub mod JoinBound
pub mod RequestLaws
pub mod AnswerLaws
pub mod Agree
