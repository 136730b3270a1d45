pub mod AnyLaws
pub mod ActiveLaws
pub mod OpenLaws
pub mod OverLaws
pub mod ScanLaws
