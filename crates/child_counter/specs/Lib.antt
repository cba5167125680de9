pub mod Passes
pub mod Shown
pub mod Steps
pub mod Public
pub mod Closed
