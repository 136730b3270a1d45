pub mod CodeLaws
pub mod ReadsLaws
pub mod PassLaws
pub mod BareLaws
pub mod GroupLaws
