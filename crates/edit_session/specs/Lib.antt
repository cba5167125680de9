pub mod Condensed
pub mod Rebuilt
pub mod Current
