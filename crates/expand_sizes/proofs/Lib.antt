pub mod Entries
pub mod Children
pub mod Attaining
pub mod Budgets
pub mod Sizing
pub mod Whole
