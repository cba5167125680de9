pub mod BestChoice
pub mod Descent
