pub mod BytesLaws
pub mod KeptBytesLaws
pub mod LayoutLaws
pub mod WriteLaws
