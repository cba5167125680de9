pub mod LineReader
pub mod Texts
pub mod LineCounts
pub mod OneReading
