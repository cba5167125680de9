pub mod RowsLeft
pub mod ReaderRows
