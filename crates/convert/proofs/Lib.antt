pub mod NumberLaws
pub mod RunLaws
pub mod IntervalLaws
pub mod SpanLaws
pub mod RoundTripLaws
