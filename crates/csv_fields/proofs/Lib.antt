pub mod RecordLaws
pub mod RowLaws
pub mod ReadingLaws
