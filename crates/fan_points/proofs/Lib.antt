pub mod FansLaws
pub mod EnergyLaws
pub mod ReadingLaws
