pub mod Rows
pub mod Ways
pub mod EditedFlows
pub mod EditedProjects
pub mod Untouched
