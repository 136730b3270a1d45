pub mod PairedSenses
pub mod RangeSenses
pub mod KeptSenses
