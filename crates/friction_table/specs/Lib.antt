pub mod FrictionRow
pub mod Rates
pub mod Loss
pub mod Reading
