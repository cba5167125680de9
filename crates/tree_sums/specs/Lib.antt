pub mod Route
pub mod Sums
