pub mod PartLaws
pub mod NumberLaws
pub mod TextLaws
pub mod ReadsLaws
