pub mod Rule
pub mod Ends
pub mod Hands
pub mod HandFields
pub mod Deals
pub mod Dealing
pub mod Gathers
