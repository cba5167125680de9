pub mod Adding
pub mod Children
pub mod Closing
pub mod Fronts
pub mod Sides
