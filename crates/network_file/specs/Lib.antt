pub mod TopTable
pub mod FanTables
pub mod SectionTables
pub mod Pairs
pub mod NetworkFile
pub mod TableEntries
