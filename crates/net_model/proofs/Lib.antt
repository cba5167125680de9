pub mod Bounds
pub mod DesignSums
