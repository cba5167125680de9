pub mod NetworkFields
pub mod Parts
