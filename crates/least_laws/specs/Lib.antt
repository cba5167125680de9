pub mod Least
pub mod Prices
pub mod LeastFromChildren
pub mod SamePairs
pub mod Choosing
