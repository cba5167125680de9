pub mod ListLaws
pub mod FilledLists
pub mod CarriedLaws
