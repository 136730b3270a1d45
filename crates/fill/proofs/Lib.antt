pub mod AddedLaws
pub mod FillingLaws
