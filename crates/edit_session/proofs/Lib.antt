pub mod Made
pub mod Fronts
pub mod Sessions
pub mod Remade
