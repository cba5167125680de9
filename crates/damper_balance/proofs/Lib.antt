pub mod LeafBeyond
pub mod Slacks
pub mod NumberLists
pub mod PassLemmas
pub mod Throttling
pub mod FoundPathLaws
pub mod FoundDampers
