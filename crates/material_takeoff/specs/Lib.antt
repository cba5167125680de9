pub mod Uses
pub mod Counting
pub mod Agreement
pub mod TakeOffText
