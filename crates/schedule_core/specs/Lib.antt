pub mod Schedule
pub mod Orderly
pub mod Answers
pub mod Claims
pub mod CoreData
pub mod CoreFields
pub mod CoreInside
