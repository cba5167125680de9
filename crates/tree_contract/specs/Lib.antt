pub mod Turns
pub mod Crews
pub mod Fronts
pub mod Depths
