pub mod Rate
pub mod DuctRow
pub mod Making
pub mod MadeRows
pub mod RowsText
