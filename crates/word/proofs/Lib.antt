pub mod WordLaws
pub mod SpellingLaws
pub mod OperatorLaws
