pub mod Commands
pub mod Arguments
pub mod ArgumentsSeen
pub mod Words
pub mod WordsSeen
pub mod RefusalText
