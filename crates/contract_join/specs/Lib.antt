pub mod SectionFronts
pub mod Kept
pub mod SideFront
pub mod Join
pub mod Outcomes
