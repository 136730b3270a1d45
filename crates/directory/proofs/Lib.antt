pub mod HasLaws
pub mod StandingLaws
pub mod AnswerLaws
pub mod EntryLaws
