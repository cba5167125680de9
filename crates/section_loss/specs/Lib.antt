pub mod Facts
pub mod Fitting
pub mod Loss
pub mod Price
pub mod Worked
