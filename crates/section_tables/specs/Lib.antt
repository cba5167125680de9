pub mod Sides
pub mod TreeSections
pub mod Neighbours
