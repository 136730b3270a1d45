pub mod EntriesLaws
pub mod RowLaws
pub mod SlotLaws
pub mod CompileLaws
pub mod WholeLaws
pub mod SumLaws
pub mod SlotBound
