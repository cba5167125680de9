pub mod SectionNumbers
pub mod Balance
pub mod FoundPaths
