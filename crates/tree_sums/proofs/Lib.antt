pub mod Totals
pub mod Climb
pub mod Places
pub mod Split
pub mod Along
pub mod Beyond
