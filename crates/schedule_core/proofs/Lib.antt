pub mod Membership
pub mod Claims
pub mod OrderlyLaws
pub mod Numbers
pub mod Steps
pub mod ClaimLaws
