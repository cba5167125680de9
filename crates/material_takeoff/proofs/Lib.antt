pub mod WithUse
pub mod OrderOfUse
pub mod OneMore
pub mod Sums
pub mod Counted
pub mod Differences
pub mod OneDifference
pub mod ListedAt
