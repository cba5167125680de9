pub mod AxisLaws
pub mod SpanLaws
pub mod CellLaws
pub mod WeightLaws
pub mod PairLaws
pub mod FittingsLaws
pub mod ReadingLaws
