pub mod HeapLaws
pub mod SiftLaws
