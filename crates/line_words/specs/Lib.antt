pub mod Words
pub mod Readers
