pub mod Document
pub mod Elements
pub mod Reading
pub mod Rows
