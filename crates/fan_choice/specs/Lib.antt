pub mod Choice
pub mod FirstCheapest
pub mod Sharing
pub mod OwnFans
